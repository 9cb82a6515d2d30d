use Rattle.std.proofs.Common.{ℕ, ◌≤◌, [], ◌∷◌, subst, sym}
use Rattle.block_store.specs.declared.Width.TheVariants.{Eight}
use Rattle.live_tables.specs.rows.Life.{MakeObjects}
use Rattle.live_tables.specs.rings.Live.{commands_of, operation_of}
use Rattle.live_tables.proofs.rings.Doing.{few_objects, made_of}
use Rattle.live_tables.proofs.rings.kind.RingsTable.objects_in.Goals as goal

pub returns-clause-few : goal.returns-clause-few
returns-clause-few c =
    subst (λ (n : ℕ). n ≤ 2) (sym c.objects_in.ensures) (few_objects c.args.request.now)

pub returns-clause-make : goal.returns-clause-make
returns-clause-make c w =
    subst (λ (n : ℕ). MakeObjects Eight n (commands_of (operation_of w c.args.request.now ∷ [])))
    (sym c.objects_in.ensures) (made_of w c.args.request.now)
