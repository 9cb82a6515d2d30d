-- Reading: what tokens spell, where they spell something.
use Rattle.std.specs.Prelude.{ℕ, ◌+◌, ◌-◌, ◌*◌, ◌≡◌, ◌==◌, nat_le, nat_lt, Bool, ◌&&◌, ◌||◌, List, [], ◌∷◌, map, length, slice_index, Option, None, Some, if◌then◌else◌}
use Rattle.trace_text.specs.Lines.{lines_of, tokens_of}

-- what a reader answers, seen by view
abbrev pub Gives : {X Y : Type 0} → (X → Y) → Option X → Option Y → Type 0
Gives view (Some x) read = read ≡ Some (view x)
Gives view None read = read ≡ None

infixl 10 ◌>>=◌
-- what is read in two steps
abbrev pub ◌>>=◌ : {A B : Type 0} → Option A → (A → Option B) → Option B
(Some x) >>= f = f x
None >>= f = None

-- the first, and the others
abbrev pub parted : {A : Type 0} → List A → Option (A × List A)
parted [] = None
parted (first ∷ others) = Some (first, others)

-- the lines of an input, each as its tokens
abbrev pub tokenized : List ℕ → List (List (List ℕ))
tokenized input = map tokens_of (lines_of input)

-- the tokens of what is left of a line
abbrev pub tokens_left : Option (List ℕ) → List (List ℕ)
tokens_left None = []
tokens_left (Some line) = tokens_of line

-- a decimal digit
abbrev pub is_digit : ℕ → Bool
is_digit b = nat_le 48 b && nat_le b 57

-- the number that these digits make after the digits of n
unfoldable pub digits_on : ℕ → List ℕ → Option ℕ
digits_on n [] = Some n
digits_on n (b ∷ bs) = if is_digit b then digits_on (10 * n + (b - 48)) bs else None

-- 1 to 19 digits, with a 0 in front only in the number 0
unfoldable pub number_at : List ℕ → Option ℕ
number_at token =
    if length token == 0 || nat_lt 19 (length token)
    || (nat_lt 1 (length token) && slice_index token 0 == 48)
    then None else digits_on 0 token

-- that no token is left
unfoldable pub no_more_of : List (List ℕ) → Option (Unit {0})
no_more_of [] = Some tt
no_more_of (a ∷ tokens) = None

-- the token, where there is one
unfoldable pub one_token_of : List (List ℕ) → Option (List ℕ)
one_token_of [] = None
one_token_of (a ∷ tokens) = do
  _ ← no_more_of tokens
  Some a

-- the tokens, where there are two
unfoldable pub two_tokens_of : List (List ℕ) → Option (List ℕ × List ℕ)
two_tokens_of [] = None
two_tokens_of (a ∷ tokens) = do
  b ← one_token_of tokens
  Some (a, b)

-- the tokens, where there are three
unfoldable pub three_tokens_of : List (List ℕ) → Option (List ℕ × List ℕ × List ℕ)
three_tokens_of [] = None
three_tokens_of (a ∷ tokens) = do
  p ← two_tokens_of tokens
  Some (a, p.0, p.1)

-- the tokens, where there are four
unfoldable pub four_tokens_of : List (List ℕ) → Option (List ℕ × List ℕ × List ℕ × List ℕ)
four_tokens_of [] = None
four_tokens_of (a ∷ tokens) = do
  p ← three_tokens_of tokens
  Some (a, p.0, p.1, p.2)
