-- Counts of times.
use Rattle.std.specs.Prelude.{ℕ, suc, ◌+◌, ◌-◌, ◌*◌, ◌^◌, ◌<◌, ◌≤◌, ◌≡◌, ◌⊎◌, nat_lt, if◌then◌else◌, List, [], ◌∷◌, length, Contains}

-- how many of the times are below the bound
abbrev pub below : ℕ → List ℕ → ℕ
below bound [] = 0
below bound (x ∷ xs) = if nat_lt x bound then suc (below bound xs) else below bound xs

-- The time is one of these, fewer than so many thousandths of them are below it, and at least so
-- many thousandths are at most it: it is the percentile by the nearest rank.
pub record IsPercentile (thousandths : ℕ) (times : List ℕ) (time : ℕ) : Type 0 where
  pub one : Contains times time
  pub few : 1000 * below time times < length times * thousandths
  pub enough : length times * thousandths ≤ 1000 * below (time + 1) times

-- how many of the times are at least the first number, and below the second
abbrev pub between : ℕ → ℕ → List ℕ → ℕ
between least bound times = below bound times - below least times

-- a number is 0, or that of one of the first n bars of powers of two
abbrev pub IsOneOf : List ℕ → ℕ → ℕ → Type 0
IsOneOf times n m =
    (m ≡ 0) ⊎ ((k : ℕ) × (k < n) × (m ≡ between (2 ^ k) (2 * 2 ^ k) times))
