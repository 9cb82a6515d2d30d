use Rattle.std.proofs.Common.{ℕ, List, [], ◌∷◌, ◌++◌, codes, decimal, ap, ◌∙◌, refl}
use Rattle.block_store.specs.Places.{bytes}
use Rattle.rt_check.specs.rt_limit.Prices.{turns, years}
use Rattle.rt_check.proofs.rt_limit.TextLaws.{figure}
use Rattle.rt_check.proofs.rt_limit.texts.line_of_heap.Goals as goal

pub returns : goal.returns
returns c =
    let h = c.args.heap.now in
    let p : ℕ = c.args.rate in
    let one : List ℕ = codes "blocks " ++ decimal h.blocks in
    let two : List ℕ = (one ++ codes " rate ") ++ decimal p in
    let three : List ℕ = (two ++ codes " bytes ") ++ decimal (bytes h) in
    let four : List ℕ = (three ++ codes " turns ") ++ decimal (turns h p 1) in
    let five : List ℕ = (four ++ codes " largest ") ++ decimal (turns h p h.object) in
    let six : List ℕ = (five ++ codes " years ") ++ decimal (years p) in
    let blocks = figure [] (codes "blocks ") _ h.blocks _ _ _ _ refl c.prepend-7.ensures.text
    c.prepend_short_number-4.ensures.text refl in
    let rate = figure one (codes " rate ") _ p _ _ _ _ blocks c.prepend-6.ensures.text
    c.prepend_short_number-3.ensures.text refl in
    let sizes = figure two (codes " bytes ") _ (bytes h) _ _ _ _ rate c.prepend-5.ensures.text
    c.prepend_short_number-2.ensures.text c.bytes.ensures.value in
    let least = figure three (codes " turns ") _ (turns h p 1) _ _ _ _ sizes
    c.prepend-4.ensures.text c.prepend_number-2.ensures.text c.turns-2.ensures in
    let most = figure four (codes " largest ") _ (turns h p h.object) _ _ _ _ least
    c.prepend-3.ensures.text c.prepend_number.ensures.text c.turns.ensures in
    let life = figure five (codes " years ") _ (years p) _ _ _ _ most
    c.prepend-2.ensures.text c.prepend_short_number.ensures.text c.years.ensures in
    life ∙ ap (λ (t : List ℕ). six ++ t)
    (c.prepend.ensures.text ∙ ap (λ (t : List ℕ). 10 ∷ t) c.new-line.ensures)
