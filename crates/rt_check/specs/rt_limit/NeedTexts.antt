-- What is written of a job's needs.
use Rattle.std.specs.Prelude.{ℕ, ◌≡◌, ◌⊎◌, Bool, if◌then◌else◌, List, [], ◌∷◌, ◌++◌, codes, decimal}
use Rattle.block_store.specs.declared.Config.{Config}
use Rattle.trace_text.specs.Lines.{ended}
use Rattle.rt_check.specs.declared.rt_limit.counts.Figures.{Figures}
use Rattle.trace_text.specs.JobTexts.{line_text}
use Rattle.trace_text.specs.Spellings.{header}
use Rattle.rt_check.specs.declared.rt_limit.blocks.Least.{Least}
use Rattle.rt_check.specs.rt_limit.Blocks.{IsNewHeap, IsToldBefore}
use Rattle.block_store.specs.Places.{bytes}
use Rattle.rt_check.specs.rt_limit.Prices.{turns, years}

-- the rates for which the least heaps are told
abbrev pub rates : List ℕ
rates = 5 ∷ 6 ∷ 7 ∷ 8 ∷ 9 ∷ 10 ∷ 12 ∷ 16 ∷ 24 ∷ 32 ∷ 48 ∷ 64 ∷ 128 ∷ 1024 ∷ []

-- a word and a number, as a line
abbrev pub number_line : List ℕ → ℕ → List ℕ
number_line word n = ended (word ++ decimal n)

-- which order it was
abbrev pub order_line : Bool → List ℕ
order_line given = if given then codes "order given\n" else codes "order thread by thread\n"

-- the lines of the order and of the figures
abbrev pub figures_text : Bool → Figures → List ℕ
figures_text given f =
    ((order_line given
    ++ number_line (codes "allocated ") f.allocated)
    ++ number_line (codes "reached ") f.reached)
    ++ number_line (codes "enough ") f.enough

-- what is told of a heap, as a line: its blocks, its rate, the bytes of its words, the most turns
-- of an allocation of one block and of one of its largest object, and the years of its life
abbrev pub heap_line : Config → ℕ → List ℕ
heap_line c rate =
    ended (codes "blocks " ++ decimal c.blocks
    ++ codes " rate " ++ decimal rate
    ++ codes " bytes " ++ decimal (bytes c)
    ++ codes " turns " ++ decimal (turns c rate 1)
    ++ codes " largest " ++ decimal (turns c rate c.object)
    ++ codes " years " ++ decimal (years rate))

-- and the header of a job with this heap
abbrev pub heap_text : Config → ℕ → List ℕ
heap_text c rate = heap_line c rate ++ line_text (header c)

-- the lines for a rate: those of the heap with the least number of blocks and of its own rate, and
-- none where it has the rate before already, or there is no such heap
abbrev pub IsRow : Config → ℕ → ℕ → ℕ → List ℕ → Type 0
IsRow c live before rate row =
    ((x : Least) × IsNewHeap c live before rate x × (row ≡ heap_text x.heap x.rate))
    ⊎ (IsToldBefore c live before rate × (row ≡ []))

-- the lines for some rates, of which each is the rate before the next
abbrev pub AreRows : Config → ℕ → ℕ → List ℕ → List ℕ → Type 0
AreRows c live before [] text = text ≡ []
AreRows c live before (rate ∷ more) text =
    (row : List ℕ) × (others : List ℕ) × (text ≡ row ++ others)
    × IsRow c live before rate row × AreRows c live rate more others

-- the text of a job's needs
abbrev pub IsText : Config → Bool → Figures → List ℕ → Type 0
IsText c given f text =
    (rows : List ℕ) × AreRows c f.enough 0 rates rows × (text ≡ figures_text given f ++ rows)
