use Rattle.std.proofs.Common.{sym, ap, ◌∙◌, subst}
use Rattle.atom_board.specs.declared.port.Port.{Port}
use Rattle.atom_board.specs.Drives.{HasTurnedBy}
use Rattle.atom_board.specs.Mutators.{BoardState, MutatorState, IsLater}
use Rattle.atom_board.specs.Ports.{HasThread}
use Rattle.atom_board.specs.contracts.mutator.Mutator.{the_view}
use Rattle.atom_board.proofs.Driven.{driven_turns, made_later}
use Rattle.atom_board.proofs.board.AtomBoard.drive.Goals as goal

pub drives-requires : goal.drives-requires
drives-requires g c =
    let old = c.who.inside in
    let shared = c.self.inside.table.shared in
    let board = ap (λ (m : MutatorState). m.board) c.who.view_is ∙ c.requires
    ∙ sym (ap (λ (b : BoardState). b.id) c.self.view_is) in
    let k = c.who.invariant in
    (record { shared = c.type_bounds.sync-Q.shared }, record { knows = k.0; words = k.2; slots = k.1; table = board; few = k.3 })

pub invariant_of-result : goal.invariant_of-result
invariant_of-result g c =
    let has = c.drives.ensures.stands in
    (has.knows, has.slots, has.words, has.few)

pub returns-clause-made : goal.returns-clause-made
returns-clause-made g c =
    let old = c.who.inside in
    let shared = c.self.inside.table.shared in
    let new : MutatorState = the_view (record { port = c.drives.new.memory; local = c.drives.new.local }) in
    let board = ap (λ (m : MutatorState). m.board) c.who.view_is ∙ c.requires
    ∙ sym (ap (λ (b : BoardState). b.id) c.self.view_is) in
    let k = c.who.invariant in
    let has : HasThread old.port.seat.me old.port.seat.table_id shared.table_id old.local =
    record { knows = k.0; words = k.2; slots = k.1; table = board; few = k.3 } in
    let run = c.drives.ensures.driven in
    subst (λ m. HasTurnedBy m new) c.who.view_is (record {
      words = run.words;
      made = driven_turns _ (λ (p : Port). p.seat.me) (λ p. p.seat.table_id) (λ p. p.seat.id)
          (λ s. s.table_id) (λ m s o w n turned. turned) shared old.port old.local run.words c.drives.new.memory c.drives.new.local has run.ran;
    })

pub returns-clause-later : goal.returns-clause-later
returns-clause-later g c =
    let old = c.who.inside in
    let shared = c.self.inside.table.shared in
    let new : MutatorState = the_view (record { port = c.drives.new.memory; local = c.drives.new.local }) in
    let board = ap (λ (m : MutatorState). m.board) c.who.view_is ∙ c.requires
    ∙ sym (ap (λ (b : BoardState). b.id) c.self.view_is) in
    let k = c.who.invariant in
    let has : HasThread old.port.seat.me old.port.seat.table_id shared.table_id old.local =
    record { knows = k.0; words = k.2; slots = k.1; table = board; few = k.3 } in
    let run = c.drives.ensures.driven in
    subst (λ m. IsLater m new) c.who.view_is (made_later (the_view old) run.words new
    (driven_turns _ (λ (p : Port). p.seat.me) (λ p. p.seat.table_id) (λ p. p.seat.id)
    (λ s. s.table_id) (λ m s o w n turned. turned) shared old.port old.local run.words c.drives.new.memory c.drives.new.local has run.ran))
