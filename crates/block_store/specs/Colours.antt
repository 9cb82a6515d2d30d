-- The words of colours: eight times the link and the kind of colour, which is 0 Free, 1 Live-even,
-- 2 Live-odd or 3 Grey.
use Rattle.std.specs.Prelude.{ℕ, ◌+◌, ◌-◌, ◌*◌, ◌/◌, ◌%◌, ◌≤◌, Bool, ◌==◌, nat_le, ◌&&◌, if◌then◌else◌, Option, Some, None}
use Rattle.block_store.specs.declared.Colour.{Colour}
use Rattle.block_store.specs.declared.Colour.TheVariants.{Free, Even, Odd, Grey}

-- the word of a free block with this link
unfoldable pub free_word : ℕ → ℕ
free_word l = 8 * l

-- the word of a grey block with this link
unfoldable pub grey_word : ℕ → ℕ
grey_word l = 8 * l + 3

-- the link in a colour word: the next block of the list, or 0
unfoldable pub link : ℕ → ℕ
link w = w / 8

-- the kind of colour in a word
unfoldable pub kind : ℕ → ℕ
kind w = w % 8

abbrev pub is_free : ℕ → Bool
is_free w = kind w == 0

abbrev pub is_grey : ℕ → Bool
is_grey w = kind w == 3

-- the word of a black block: in cycle c black is Live of c's parity
unfoldable pub black_word : ℕ → ℕ
black_word c = 1 + c % 2

-- the word of a white block: in cycle c white is Live of the other parity
unfoldable pub white_word : ℕ → ℕ
white_word c = 2 - c % 2

-- the colours that have a word: links to 65,535
abbrev pub IsColour : Colour → Type 0
IsColour (Free l) = l ≤ 65535
IsColour Even = Unit {0}
IsColour Odd = Unit {0}
IsColour (Grey l) = l ≤ 65535

-- the word of a colour
abbrev pub colour_code : Colour → ℕ
colour_code (Free l) = free_word l
colour_code Even = 1
colour_code Odd = 2
colour_code (Grey l) = grey_word l

-- the link of a colour
abbrev pub colour_link : Colour → ℕ
colour_link (Free l) = l
colour_link Even = 0
colour_link Odd = 0
colour_link (Grey l) = l

-- the kind of a colour
abbrev pub colour_kind : Colour → ℕ
colour_kind (Free l) = 0
colour_kind Even = 1
colour_kind Odd = 2
colour_kind (Grey l) = 3

-- the two Live colours of a cycle
unfoldable pub black_of : ℕ → Colour
black_of c = if c % 2 == 0 then Even else Odd

unfoldable pub white_of : ℕ → Colour
white_of c = if c % 2 == 0 then Odd else Even

-- the colour that a word is, or none
unfoldable pub colour_of : ℕ → Option Colour
colour_of w =
    if w == 1 then Some Even
    else if w == 2 then Some Odd
    else if w % 8 == 0 && nat_le (w / 8) 65535 then Some (Free (w / 8))
    else if w % 8 == 3 && nat_le (w / 8) 65535 then Some (Grey (w / 8))
    else None
