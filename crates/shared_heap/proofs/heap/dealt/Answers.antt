use Rattle.std.proofs.Common.{rules, ◌≡◌, ap, sym, ◌∙◌, subst, [], ◌∷◌}
use Rattle.atomic_table.specs.Seated.{TableId}
use Rattle.shared_heap.specs.Shared.{first_held}
use Rattle.shared_heap.specs.Workers.{IsDealt}
use Rattle.atom_board.proofs.AllMutators.{dealt_next}
use Rattle.shared_heap.proofs.Asking.{dealt_kept}
use Rattle.shared_heap.proofs.Steps.{splits}
use Rattle.shared_heap.proofs.heap.dealt.Goals as goal

pub split_seat-own-requires : goal.split_seat-own-requires
split_seat-own-requires c = (c.loop-local.invariant.2, c.requires.table.2, splits c.args.shared.now.key c.loop-local.seat.id c.loop-local.seat.me.0)

pub invariant_of-push_reserved : goal.invariant_of-push_reserved
invariant_of-push_reserved c =
    let table : c.split_seat-own.result.table_id ≡ c.args.shared.now.table_id = search rules in
    let own : c.split_seat-own.result.me ≡ (record { threads = first_held c.in-Some.local ∷ []; notes = [] }, []) = search rules in
    let slots : c.split_seat-own.result.table_id.slots ≡ 0 = ap (λ (t : TableId). t.slots) table ∙ c.requires.table.1 in
    let is : IsDealt c.args.shared.now.table_id.words c.in-Some.local = dealt_next (λ l. IsDealt c.args.shared.now.table_id.words l) c.loop-local.yielded _ _ _ c.in-Some.local c.loop-local.invariant.0 c.in-Some.ensures.steps.0 c.requires.each in
    let there : IsDealt c.split_seat-own.result.table_id.words c.in-Some.local = subst (λ (t : TableId). IsDealt t.words c.in-Some.local) (sym table) is in (
      dealt_kept c.split_seat-own.result.me c.split_seat-own.result.table_id c.in-Some.local own slots there,
      dealt_next (λ l. c.args.config.now ≡ l.config) c.loop-local.yielded _ _ _ c.in-Some.local c.loop-local.invariant.0 c.in-Some.ensures.steps.0 c.requires.config,
    )
