-- What is in the blocks of the object that a command makes.
use Rattle.std.proofs.Common.{
  ◌≡◌,
  ◌≢◌,
  ℕ,
  zero,
  suc,
  ◌+◌,
  ◌*◌,
  ◌<◌,
  ◌≤◌,
  Option,
  Some,
  None,
  IfSome,
  refl,
  sym,
  arith,
  ap,
  ltb,
  inl,
  inr,
}
use Rattle.std.proofs.lemmas.Bool.{cases_Bool}
use Rattle.block_store.specs.declared.Config.{Config}
use Rattle.block_store.specs.declared.Width.{Width}
use Rattle.block_store.specs.Widths.{payloads}
use Rattle.block_store.proofs.Lemmas.{many}
use Rattle.object_lists.specs.Parts.{link_in, field_below}
use Rattle.object_lists.specs.Records.{record_part, list_part, room}
use Rattle.object_lists.specs.Layouts.{IsLayout}
use Rattle.object_lists.proofs.Lists.{record_layout}
use Rattle.object_lists.proofs.Parts.{is_link}
use Rattle.array_trees.specs.Levels.{array_part, array_slot}
use Rattle.array_trees.specs.Trees.{array_blocks}
use Rattle.array_trees.proofs.Arrays.{tree_layout}
use Rattle.never_heap.specs.declared.Command.{Command}
use Rattle.never_heap.specs.declared.Command.TheVariants.{New, Arr}
use Rattle.never_heap.specs.Steps.{blocks_of}
use Rattle.build_steps.specs.Fits.{BuildFits}
use Rattle.build_steps.specs.Objects.{made_part}
use Rattle.build_steps.specs.Rows.{BuildState}

field_links : (i n : ℕ) → link_in (field_below i n) ≡ None
field_links i n = elim (cases_Bool (ltb i n)) [ inl is ↦ rw is refl | inr is ↦ rw is refl ]

list_links : (k f o j : ℕ) → link_in (list_part k f o (suc j)) ≡ None
list_links k f o j = elim (cases_Bool (ltb j k)) [
  | inl is ↦ rw is (field_links (o * k + j) f)
  | inr is ↦ rw is refl
]

-- in a record only payload 0 links
pub other_field : (w : Width) (f o j : ℕ) → j ≢ 0 → link_in (record_part w f o j) ≡ None
other_field w f o zero ne = absurd (ne refl)
other_field w f o (suc j) ne = list_links (room w) f o j

array_layout : (w : Width) (e : ℕ)
    → IsLayout (payloads w) e (array_blocks w e) (array_part w e) (array_slot w e)
array_layout w e = tree_layout (payloads w) e (many w)

-- links go to larger ordinals
pub links_onward : (w : Width) (k : Command) (o j p : ℕ) → link_in (made_part w k o j) ≡ Some p
    → (o < p) × (p < blocks_of w k)
links_onward w (New d f) o j p e =
    let on = (record_layout w f).onward o j p (is_link (record_part w f o j) p e) in (on.1, on.2)
links_onward w (Arr d f) o j p e =
    let on = (array_layout w f).onward o j p (is_link (array_part w f o j) p e) in (on.1, on.2)
links_onward w _ o j p e = absurd (let z : None ≡ Some p = e in cc)

pub made_onward : (w : Width) (k : Command) (b o j : ℕ) (r : Option ℕ) → b ≡ blocks_of w k
    → r ≡ link_in (made_part w k o j) → IfSome r (λ p. (o < p) × (p < b))
made_onward w k b o j None size e = tt
made_onward w k b o j (Some p) size e =
    let on = links_onward w k o j p (sym e) in (on.0, omega (arith, on.1, size))

-- the command of a state that fits has blocks
pub has_blocks : (c : Config) (s : BuildState) → BuildFits c s → 1 ≤ blocks_of c.width s.command
has_blocks c s f = omega (arith, f.size, f.some)
