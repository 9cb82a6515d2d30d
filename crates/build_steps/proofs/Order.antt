-- In which order the words of the held blocks are written.
use Rattle.std.proofs.Common.{◌≡◌, ℕ, ◌+◌, true, false, refl, arith, inl, inr, ltb, eq-eqb, ne_eqb, ltb-false}
use Rattle.std.proofs.lemmas.Bool.{cases_Bool, cases_eq}
use Rattle.block_store.specs.declared.Config.{Config}
use Rattle.block_store.specs.Places.{extent}
use Rattle.block_store.specs.Widths.{payloads}
use Rattle.build_steps.specs.declared.rows.BuildRow.{BuildRow}
use Rattle.build_steps.specs.declared.rows.BuildRow.TheVariants.{
  WriteOwner,
  WriteShape,
  WritePayload,
  WriteColour,
}
use Rattle.build_steps.specs.LinearizationPoints.{is_writing}
use Rattle.build_steps.specs.Fits.{RowFits, BuildFits}
use Rattle.build_steps.specs.Rows.{BuildState, row_got, build_got}
use Rattle.build_steps.specs.Standing.{IsNextWord}

row_next : (c : Config) (s : BuildState) (r : BuildRow) (v : ℕ) → RowFits c s.blocks s.held r
    → is_writing r ≡ true → IsNextWord (payloads c.width) s.blocks r (row_got c.width s r v)
row_next c s (WriteOwner o) v f is = inl (refl, refl)
row_next c s (WriteShape o) v f is = inl (refl, refl)
row_next c s (WritePayload o j) v f is =
    let low = f.1 in
    elim (cases_Bool (ltb (j + 1) (payloads c.width))) [
      | inl more ↦ rw more (inl (refl, omega arith))
      | inr last ↦
          let q = ltb-false (j + 1) (payloads c.width) last in
          rw last (inl (refl, omega arith))
    ]
row_next c s (WriteColour o) v f is = elim (cases_eq o 0) [
  | inl z ↦ rw (eq-eqb o 0 z) (inr (omega arith, refl, refl))
  | inr nz ↦ rw (ne_eqb o 0 nz) (inr (omega arith, refl, refl))
]
row_next c s _ v f is = absurd (let z : false ≡ true = is in cc)

pub next_word : (c : Config) (s : BuildState) (v : ℕ) → BuildFits c s → is_writing s.row ≡ true
    → IsNextWord (payloads c.width) s.blocks s.row (build_got (extent c) s v).row
next_word c s v f is = row_next c s s.row v f.row is
