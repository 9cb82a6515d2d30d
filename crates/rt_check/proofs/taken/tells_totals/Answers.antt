use Rattle.std.proofs.Common.{◌≡◌, true, false, sym, ◌∙◌}
use Rattle.trace_text.specs.RunTexts.{totals_text}
use Rattle.rt_check.proofs.TakenLaws.{no_cycles, no_units, tells_these, totals_told}
use Rattle.rt_check.proofs.taken.tells_totals.Goals as goal

no : false ≡ true → ⊥
no e = cc

pub returns-in_default : goal.returns-in_default
returns-in_default c = (
  λ e. absurd (no e),
  λ tells. absurd (no_cycles c.args.line.now (sym c.number_in.ensures ∙ c.in_default.is) tells),
)

pub returns-in_default-number_in : goal.returns-in_default-number_in
returns-in_default-number_in c = (
  λ e. absurd (no e),
  λ tells. absurd (no_units c.args.line.now
      (sym c.number_in-2.ensures ∙ c.in_default-number_in.is) tells),
)

pub returns : goal.returns
returns c =
    let third = sym c.number_in.ensures ∙ c.in-Some.is in
    let fifth = sym c.number_in-2.ensures ∙ c.in-Some-number_in.is in
    let same = c.is_line.ensures (totals_text c.in-Some.cycles c.in-Some-number_in.units)
    c.fill_totals.ensures.text in (
      λ e. totals_told c.args.line.now c.in-Some.cycles c.in-Some-number_in.units third fifth
          (same.0 e),
      λ tells. same.1 (tells_these c.args.line.now c.in-Some.cycles c.in-Some-number_in.units
          third fifth tells),
    )
