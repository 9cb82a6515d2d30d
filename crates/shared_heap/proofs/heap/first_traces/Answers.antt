use Rattle.std.proofs.Common.{◌≡◌, List, [], ◌∷◌, ◌++◌, map, length, length-append, ap, sym, subst, ◌∙◌, arith, Vec, Global}
use Rattle.std.proofs.lemmas.List.{map-append}
use Rattle.never_heap.specs.declared.Command.{Command}
use Rattle.never_heap.specs.declared.Command.TheVariants as commands
use Rattle.shared_heap.specs.Workers.{AreOnes}
use Rattle.shared_heap.proofs.InitialHeaps.{ones_more}
use Rattle.shared_heap.proofs.heap.first_traces.Goals as goal

abbrev items_of : Vec Command Global → List Command
items_of v = v.items

pub loop-thread-preserved : goal.loop-thread-preserved
loop-thread-preserved c =
    let old : List (Vec Command Global) = c.loop-thread.traces.items in
    let new : Vec Command Global = c.in_ok-vec.field-0 in
    let is : items_of new ≡ commands.Nil 0 ∷ [] = c.in_ok-vec.ensures.items in
    let pushed : c.push.new.self.items ≡ old ++ new ∷ [] = c.in_ok-push.ensures.items in
    let all : map items_of c.push.new.self.items ≡ map items_of old ++ items_of new ∷ [] = ap (map items_of) pushed ∙ map-append items_of old (new ∷ []) in (
      ap length all ∙ length-append (map items_of old) (items_of new ∷ []) ∙ omega (arith, c.loop-thread.invariant.0),
      subst (λ xs. AreOnes xs) (sym all) (ones_more (map items_of old) (items_of new) c.loop-thread.invariant.1 is),
    )
