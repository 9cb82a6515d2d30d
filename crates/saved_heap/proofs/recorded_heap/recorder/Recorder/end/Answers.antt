use Rattle.std.proofs.Common.{◌≡◌, ◌∙◌, true, false, not, ap, sym, subst}
use Rattle.saved_heap.specs.recorded_heap.Recording.{IsWhole, RecorderOf}
use Rattle.saved_heap.proofs.recorded_heap.Lines.{ended}
use Rattle.saved_heap.proofs.recorded_heap.recorder.Recorder.end.Goals as goal
use Rattle.saved_heap.proofs.recorded_heap.recorder.Recorder.end.Goals.{then-not-torn, else-not-torn}

pub returns-clause-whole : goal.returns-clause-whole
returns-clause-whole g c = elim c.if-not-torn.branch [
  | then-not-torn w ↦
      subst (λ s. c.if-not-torn.whole ≡ true → IsWhole g.S.Sink.held c.args.self s) (sym w.sink-is)
      (ended g.S.Sink.held c.args.self c.self.inside.sink w.put.new.self w.put.result w.is_ok-whole.result
      c.if-not-torn.whole (ap (λ (r : RecorderOf g.row.S.Denot). r.sink) c.self.view_is)
      w.is_ok-whole.ensures.value w.whole-is w.put.ensures.appended)
  | else-not-torn w ↦
      λ t. (let f : c.if-not-torn.whole ≡ false = w.whole-is ∙ ap not w.if-not-torn.false in absurd cc)
]
