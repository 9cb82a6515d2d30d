-- The text of a bar.
use Rattle.std.specs.Prelude.{ℕ, ◌+◌, ◌-◌, ◌*◌, ◌/◌, ◌%◌, ◌^◌, min, max, List, ◌++◌, codes, replicate}
use Rattle.std.specs.Fmt.{styled_decimal, format_spec}
use Rattle.timed_runs.specs.declared.time_histograms.bars.Bar.{Bar}

-- a quotient, rounded up
abbrev pub rounded_up : ℕ → ℕ → ℕ
rounded_up x y = x / y + min 1 (x % y)

-- how many marks a row has with so many times, where the fullest has so many: 60 for as many, and
-- for fewer in proportion, rounded up
abbrev pub marks_of : ℕ → ℕ → ℕ
marks_of count most = min (rounded_up (60 * count) (max most 1)) 60

-- a number at the right end of a column of so many bytes
abbrev pub column : ℕ → ℕ → List ℕ
column width n = styled_decimal (format_spec 32 3 0 width (2 ^ 64 - 1)) n

-- a row: the least time, how many times there are, and so many marks
abbrev pub row_of : Bar → List ℕ
row_of bar =
    column 16 bar.least ++ codes " ns " ++ column 10 bar.count ++ codes " "
    ++ replicate (marks_of bar.count bar.most) 35 ++ codes "\n"
