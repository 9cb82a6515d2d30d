-- The lines of the readings so far are written, and no fault was counted.
use Rattle.std.proofs.Common.{◌≡◌, ◌≤◌, ℕ, List, [], length}
use Rattle.historian_core.specs.StoredReadings.{Stores}
use Rattle.historian_core.specs.ReportTexts.{life, due_after}
use Rattle.historian_core.proofs.ReportLaws.{LeadsOn}
use Rattle.historian_core.proofs.texts.tell_all.Given as goal

abbrev pub invariant-loop-count : goal.invariant-loop-count
invariant-loop-count g l = record {
  told : (past : List ℕ) × Stores l.historian l.limits past × (length past ≡ l.count)
      × LeadsOn (due_after l.limits []) (due_after l.limits past) (g.S.Source.left l.fn.source)
      (g.S.Source.left l.source) (g.K.Sink.held l.fn.sink) (g.K.Sink.held l.sink);
  room : l.count ≤ life;
  counted : (g.S.Source.faults l.source ≡ g.S.Source.faults l.fn.source)
      × (g.K.Sink.faults l.sink ≡ g.K.Sink.faults l.fn.sink);
}
