-- Requests one after the other have one history, and the works of the one thread are all.
use Rattle.std.proofs.Common.{List, [], ◌∷◌, ◌++◌, append_assoc, append-nil, map, refl, sym, ap, ◌∙◌, subst}
use Rattle.never_heap.specs.declared.Command.{Command}
use Rattle.never_heap.specs.declared.Entry.{Entry}
use Rattle.never_heap.specs.declared.Reply.{Reply}
use Rattle.heap_system.specs.Machines.{Run}
use Rattle.control_heap.specs.Controls.{ControlOf, Stands, AllAnswered, HasHistory, Answers, entries_in}
use Rattle.control_heap.proofs.Items.{entries_append}

pub one_history : {M : Type 0} (ks : List Command) (ys : List Reply) (h z : ControlOf M) (r : Run) → Stands h r → AllAnswered h ks ys z → HasHistory z ks ys r
one_history [] [] h z r stands same = record { run = r; stands = subst (λ x. Stands x r) same stands; items = []; order = sym (append-nil r.order); commands = refl; replies = refl }
one_history [] (a ∷ ys) h z r stands none = absurd none
one_history (k ∷ ks) [] h z r stands none = absurd none
one_history (k ∷ ks) (a ∷ ys) h z r stands all =
    let next = all.2 r stands in
    let one : Answers h.config k a r next.0 = next.2 in
    let rest = one_history ks ys all.0 z next.0 next.1 all.3 in
    record {
      run = rest.run;
      stands = rest.stands;
      items = one.items ++ rest.items;
      order = rest.order ∙ ap (λ x. x ++ rest.items) one.order ∙ append_assoc r.order one.items rest.items;
      commands = ap (map (λ (e : Entry). e.command)) (entries_append one.items rest.items ∙ ap (λ x. x ++ entries_in rest.items) one.entries) ∙ (λ i. one.command i ∷ rest.commands i);
      replies = ap (map (λ (e : Entry). e.reply)) (entries_append one.items rest.items ∙ ap (λ x. x ++ entries_in rest.items) one.entries) ∙ (λ i. one.reply i ∷ rest.replies i);
    }
