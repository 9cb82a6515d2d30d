use Rattle.std.proofs.Common.{ℕ, List, ◌++◌, ap, ◌∙◌}
use Rattle.rt_check.proofs.rt_limit.TextLaws.{four_parts}
use Rattle.rt_check.proofs.rt_limit.texts.text_of.Goals as goal

pub returns : goal.returns
returns c =
    let rows = c.in_ok-add_rows.ensures in (
      rows.0,
      rows.1,
      rows.2 ∙ ap (λ (t : List ℕ). t ++ rows.0)
          (four_parts _ _ _ _ _ _ _ _ _
          (c.in_ok-extend_from_slice.ensures.items ∙ ap (λ (t : List ℕ). c.new-text.result.items ++ t) c.order_of.ensures)
          c.new-text.ensures.items
          c.in_ok-add_line.ensures c.in_ok-add_line-2.ensures c.in_ok-add_line-3.ensures),
    )
