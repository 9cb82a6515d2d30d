-- The lines of the input, one after the other.
use Rattle.std.proofs.Common.{◌≡◌, ℕ, ◌+◌, ◌<◌, ◌≤◌, le-ltb, cond, List, [], ◌∷◌, ◌++◌, length, length-append, map, Option, Some, None, IfSome, Result, Ok, Err, sym, refl, ap, ◌∙◌, subst, append_assoc, arith}
use Rattle.std.proofs.lemmas.List.{length-map}
use Rattle.std.specs.List.{AllByRecursion}
use Rattle.trace_text.specs.Faults.{Rose}
use Rattle.trace_text.specs.Lines.{lines_of}
use Rattle.trace_text.specs.declared.Failed.{Failed}
use Rattle.trace_text.specs.declared.short_lines.Next.{Next}
use Rattle.trace_text.specs.declared.short_lines.Next.TheVariants.{Long}
use Rattle.trace_text.specs.short_lines.Found.{IsCut, IsFound, IsLong}
use Rattle.array_tables.specs.declared.tag_table.operation.Operation.{Operation}
use Rattle.array_tables.specs.declared.tag_table.operation.Operation.TheVariants.{Write}
use Rattle.plantrun_core.specs.declared.calls.Done.{Done}
use Rattle.plantrun_core.specs.declared.hand.Hand.{Hand}
use Rattle.plantrun_core.specs.declared.readings.Reading.{Reading}
use Rattle.plantrun_core.specs.declared.stops.Stop.{Stop}
use Rattle.plantrun_core.specs.declared.stops.Stop.TheVariants as stops
use Rattle.plantrun_core.specs.Logs.{operation_of}
use Rattle.plantrun_core.specs.Readings.{AreDue, CountsNext, HasTooMany, IsNext, IsPastEnd, IsStop, IsTaken, Spells, SpellsNone, puts, reading_at, room, spelled_at}
use Rattle.plantrun_core.specs.Roles.{word}
use Rattle.plantrun_core.specs.Works.{CountsInput, HasInput}

reading_long : (line : List ℕ) → 40 ≤ length line → reading_at line ≡ None
reading_long line long = ap (λ b. cond b (spelled_at line) None) (le-ltb (length line) 40 long)

pub long_next : (ticks : ℕ) (all left new : Option (List ℕ)) (line : List ℕ) (number : ℕ)
    (r : Result Next Failed) (n : Next) → r ≡ Ok n → n ≡ Long
    → IfSome all (λ bytes. IsFound bytes left line r)
    → IfSome all (λ bytes. IsNext ticks bytes new number (Err (stops.BadLine number)))
long_next ticks None left new line number r n e f found = tt
long_next ticks (Some bytes) left new line number r n e f found =
    let long : IsLong bytes left = subst (λ o. IsFound bytes left line o) (e ∙ ap Ok f) found in (
      refl,
      record {
        line = long.line;
        others = long.others;
        lines = long.lines;
        spelled = reading_long long.line long.long;
      },
    )

-- ---- one more reading

due_more : (ticks : ℕ) (done : List (List ℕ)) (rs : List Reading) (line : List ℕ) (r : Reading)
    → AreDue ticks done rs → reading_at line ≡ Some r → r.tick < ticks
    → AreDue ticks (done ++ line ∷ []) (rs ++ r ∷ [])
due_more ticks [] [] line r due is low = (is, low, tt)
due_more ticks [] (x ∷ rs) line r due is low = absurd due
due_more ticks (l ∷ done) [] line r due is low = absurd due
due_more ticks (l ∷ done) (x ∷ rs) line r due is low =
    (due.0, due.1, due_more ticks done rs line r due.2 is low)

pub puts_more : (n : ℕ) (rs : List Reading) (r : Reading)
    → puts n (rs ++ r ∷ []) ≡ puts n rs ++ puts (n + length rs) (r ∷ [])
puts_more n [] r = ap (λ k. puts k (r ∷ [])) (omega arith)
puts_more n (x ∷ rs) r =
    ap (λ l. Write x.tag x.value (word n x.good) ∷ l) (puts_more (n + 1) rs r
    ∙ ap (λ k. puts (n + 1) rs ++ puts k (r ∷ [])) (omega arith))

pub puts_all : (old new : List Operation) (rs : List Reading) (r : Reading) (number : ℕ)
    → old ≡ puts 1 rs → number ≡ length rs + 1 → new ≡ old ++ puts number (r ∷ [])
    → new ≡ puts 1 (rs ++ r ∷ [])
puts_all old new rs r number is count more =
    more ∙ ap (λ l. l ++ puts number (r ∷ [])) is
    ∙ ap (λ k. puts 1 rs ++ puts k (r ∷ [])) (let e : number ≡ 1 + length rs = omega arith in e)
    ∙ sym (puts_more 1 rs r)

pub length_one_more : (rs : List Reading) (r : Reading) → length (rs ++ r ∷ []) ≡ length rs + 1
length_one_more rs r = length-append rs (r ∷ [])

-- these readings were read, and this is left of the text
pub record IsReadTo (ticks : ℕ) (bytes : List ℕ) (rs : List Reading) (left : Option (List ℕ))
    : Type 0 where
  pub done : List (List ℕ)
  pub rest : List ℕ
  pub split : lines_of bytes ≡ done ++ lines_of rest
  pub due : AreDue ticks done rs
  pub now : left ≡ Some rest

pub read_none : (ticks : ℕ) (all : Option (List ℕ))
    → IfSome all (λ bytes. IsReadTo ticks bytes [] all)
read_none ticks None = tt
read_none ticks (Some bytes) =
    record { done = []; rest = bytes; split = refl; due = tt; now = refl }

pub read_more : (ticks : ℕ) (all left new : Option (List ℕ)) (rs : List Reading) (r : Reading)
    (number : ℕ) → IfSome all (λ bytes. IsReadTo ticks bytes rs left)
    → IfSome left (λ bytes. IsNext ticks bytes new number (Ok (Some r)))
    → IfSome all (λ bytes. IsReadTo ticks bytes (rs ++ r ∷ []) new)
read_more ticks None left new rs r number read next = tt
read_more ticks (Some bytes) left new rs r number read next =
    let by : Spells r read.rest new × (r.tick < ticks) =
    subst (λ o. IfSome o (λ b. Spells r b new × (r.tick < ticks))) read.now next in
    record {
      done = read.done ++ by.0.line ∷ [];
      rest = by.0.rest;
      split = read.split ∙ ap (λ ls. read.done ++ ls) by.0.lines
          ∙ sym (append_assoc read.done (by.0.line ∷ []) (lines_of by.0.rest));
      due = due_more ticks read.done rs by.0.line r read.due by.0.spelled by.1;
      now = by.0.now;
    }

-- no reading is left that is due
pub read_end : (ticks : ℕ) (all left new : Option (List ℕ)) (rs : List Reading) (number : ℕ)
    → length rs ≤ room ticks → IfSome all (λ bytes. IsReadTo ticks bytes rs left)
    → IfSome left (λ bytes. IsNext ticks bytes new number (Ok None))
    → IfSome all (λ bytes. IsTaken ticks bytes rs)
read_end ticks None left new rs number few read next = tt
read_end ticks (Some bytes) left new rs number few read next = record {
  done = read.done;
  others = lines_of read.rest;
  split = read.split;
  due = read.due;
  few = few;
  end = subst (λ o. IfSome o (λ b. IsPastEnd ticks (lines_of b))) read.now next;
}

-- one more is due than there is room for
pub read_many : (ticks : ℕ) (all left new : Option (List ℕ)) (rs : List Reading) (r : Reading)
    (number : ℕ) → length rs ≡ room ticks → IfSome all (λ bytes. IsReadTo ticks bytes rs left)
    → IfSome left (λ bytes. IsNext ticks bytes new number (Ok (Some r)))
    → IfSome all (λ bytes. HasTooMany ticks bytes)
read_many ticks None left new rs r number full read next = tt
read_many ticks (Some bytes) left new rs r number full read next =
    let more : IsReadTo ticks bytes (rs ++ r ∷ []) new =
    read_more ticks (Some bytes) left new rs r number read next in
    record {
      rs = rs ++ r ∷ [];
      done = more.done;
      others = lines_of more.rest;
      split = more.split;
      due = more.due;
      many = length_one_more rs r ∙ ap (λ k. k + 1) full;
    }

-- the next line spells none, or the source failed in it
pub read_stop : (ticks : ℕ) (all left new : Option (List ℕ)) (rs : List Reading) (number : ℕ)
    (stop : Stop) (a b : ℕ) → length rs ≤ room ticks → number ≡ length rs + 1
    → CountsNext a b (Err stop) → IfSome all (λ bytes. IsReadTo ticks bytes rs left)
    → IfSome left (λ bytes. IsNext ticks bytes new number (Err stop))
    → IsStop ticks all new stop
read_stop ticks all left new rs number stops.TooMany a b few same counts read next =
    absurd counts
read_stop ticks all left new rs number stops.NoMemory a b few same counts read next =
    absurd counts
read_stop ticks None left new rs number (stops.BadLine k) a b few same counts read next = tt
read_stop ticks None left new rs number stops.ReadFault a b few same counts read next = tt
read_stop ticks (Some bytes) left new rs number (stops.BadLine k) a b few same counts read
    next =
    let by : (k ≡ number) × SpellsNone read.rest =
    subst (λ o. IfSome o (λ b. (k ≡ number) × SpellsNone b)) read.now next in
    record {
      rs = rs;
      done = read.done;
      line = by.1.line;
      others = by.1.others;
      split = read.split ∙ ap (λ ls. read.done ++ ls) by.1.lines;
      due = read.due;
      few = few;
      none = by.1.spelled;
      number = by.0 ∙ same;
    }
read_stop ticks (Some bytes) left new rs number stops.ReadFault a b few same counts read
    next = record {
      rs = rs;
      done = read.done;
      rest = read.rest;
      split = read.split;
      due = read.due;
      few = few;
      cut = subst (λ o. IfSome o (λ b. IsCut b new)) read.now next;
    }

pub counts_input : (first a b : ℕ) (stop : Stop) → a ≡ first → CountsNext a b (Err stop)
    → CountsInput first b (Some stop)
counts_input first a b (stops.BadLine k) same counts = counts ∙ same
counts_input first a b stops.ReadFault same counts = subst (λ x. Rose x b) same counts
counts_input first a b stops.TooMany same counts = absurd counts
counts_input first a b stops.NoMemory same counts = absurd counts

-- ---- the loop over the lines

-- so many readings were read, and these are their operations
abbrev pub HasRead : ℕ → Option (List ℕ) → Option (List ℕ) → ℕ → List Operation → Type 0
HasRead ticks all left n ops =
    (rs : List Reading) × AllByRecursion (λ (r : Reading). r.tag < 9) rs × (length rs ≡ n)
    × (ops ≡ puts 1 rs) × IfSome all (λ bytes. IsReadTo ticks bytes rs left)

pub read_first : (ticks : ℕ) (all : Option (List ℕ)) (log : List Done) → log ≡ []
    → HasRead ticks all all 0 (map operation_of log)
read_first ticks all log e = ([], tt, refl, ap (map operation_of) e, read_none ticks all)

tags_more : (rs : List Reading) (r : Reading) → AllByRecursion (λ (r : Reading). r.tag < 9) rs
    → r.tag < 9 → AllByRecursion (λ (r : Reading). r.tag < 9) (rs ++ r ∷ [])
tags_more [] r all low = (low, tt)
tags_more (x ∷ rs) r all low = (all.0, tags_more rs r all.1 low)

pub read_on : (ticks n : ℕ) (all left new : Option (List ℕ)) (ops more : List Operation)
    (r : Reading) → HasRead ticks all left n ops
    → IfSome left (λ bytes. IsNext ticks bytes new (n + 1) (Ok (Some r))) → r.tag < 9
    → more ≡ ops ++ puts (n + 1) (r ∷ []) → HasRead ticks all new (n + 1) more
read_on ticks n all left new ops more r read next low is = (
  read.0 ++ r ∷ [],
  tags_more read.0 r read.1 low,
  length_one_more read.0 r ∙ ap (λ k. k + 1) read.2,
  puts_all ops more read.0 r (n + 1) read.3 (ap (λ k. k + 1) (sym read.2)) is,
  read_more ticks all left new read.0 r (n + 1) read.4 next,
)

puts_length : (n : ℕ) (rs : List Reading) → length (puts n rs) ≡ length rs
puts_length n [] = refl
puts_length n (r ∷ rs) = omega (arith, puts_length (n + 1) rs)

pub read_length : (ticks n : ℕ) (all left : Option (List ℕ)) (log : List Done)
    → HasRead ticks all left n (map operation_of log) → length log ≡ n
read_length ticks n all left log read =
    sym (length-map log operation_of) ∙ ap length read.3 ∙ puts_length 1 read.0 ∙ read.2

pub input_stop : (ticks n : ℕ) (all left new : Option (List ℕ)) (hand : Hand) (stop : Stop)
    (a b : ℕ) → n ≤ room ticks → HasRead ticks all left n (map operation_of hand.calls.items)
    → CountsNext a b (Err stop)
    → IfSome left (λ bytes. IsNext ticks bytes new (n + 1) (Err stop))
    → HasInput ticks all new hand (Some stop)
input_stop ticks n all left new hand stop a b few read counts next = record {
  readings = read.0;
  tags = read.1;
  log = read.3;
  end = read_stop ticks all left new read.0 (n + 1) stop a b (omega (arith, read.2))
      (ap (λ k. k + 1) (sym read.2)) counts read.4 next;
}

pub input_end : (ticks n : ℕ) (all left new : Option (List ℕ)) (hand : Hand) → n ≤ room ticks
    → HasRead ticks all left n (map operation_of hand.calls.items)
    → IfSome left (λ bytes. IsNext ticks bytes new (n + 1) (Ok None))
    → HasInput ticks all new hand None
input_end ticks n all left new hand few read next = record {
  readings = read.0;
  tags = read.1;
  log = read.3;
  end = read_end ticks all left new read.0 (n + 1) (omega (arith, read.2)) read.4 next;
}

pub input_many : (ticks n : ℕ) (all left new : Option (List ℕ)) (hand : Hand) (r : Reading)
    → n ≡ room ticks → HasRead ticks all left n (map operation_of hand.calls.items)
    → IfSome left (λ bytes. IsNext ticks bytes new (n + 1) (Ok (Some r)))
    → HasInput ticks all new hand (Some stops.TooMany)
input_many ticks n all left new hand r full read next = record {
  readings = read.0;
  tags = read.1;
  log = read.3;
  end = read_many ticks all left new read.0 r (n + 1) (read.2 ∙ full) read.4 next;
}
