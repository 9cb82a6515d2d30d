-- A line that is read byte by byte.
use Rattle.std.proofs.Common.{◌≡◌, ◌≢◌, ℕ, zero, suc, ◌+◌, ◌<◌, ◌≤◌, true, false, inl, inr, eqb, List, [], ◌∷◌, ◌++◌, length, get_or, take, drop, Option, Some, None, IfSome, Ok, Err, eq-eqb, ne_eqb, sym, refl, ap, ◌∙◌, subst, arith, take-append-drop}
use Rattle.std.specs.List.{AllByRecursion}
use Rattle.std.proofs.lemmas.Bool.{cases_eq}
use Rattle.std.proofs.lemmas.List.{length-take-le, take_all}
use Rattle.trace_text.specs.declared.Failed.{Failed}
use Rattle.trace_text.specs.Lines.{lines_of, onto_first}
use Rattle.trace_text.specs.Streams.{TookAtMost}
use Rattle.trace_text.proofs.ByteSplits.{NoneBefore, lines_at, lines_none}
use Rattle.trace_text.specs.declared.short_lines.Next.{Next}
use Rattle.trace_text.specs.declared.short_lines.Next.TheVariants.{Line, Long, End}
use Rattle.trace_text.specs.short_lines.Found.{LeadsBy, EndsAt, IsFound}

-- the first i bytes came, none of them a line feed, and the others are left
pub record IsReadTo (bytes : List ℕ) (i : ℕ) (line : List ℕ) (left : Option (List ℕ)) : Type 0 where
  pub within : i ≤ length bytes
  pub read : line ≡ take i bytes
  pub now : left ≡ Some (drop i bytes)
  pub none : NoneBefore 10 bytes i

pub read_none : (all : Option (List ℕ)) (line : List ℕ) → line ≡ []
    → IfSome all (λ bytes. IsReadTo bytes 0 line all)
read_none None line e = tt
read_none (Some bytes) line e = record {
  within = omega arith;
  read = e;
  now = refl;
  none = λ k l. absurd (omega arith);
}

-- the byte that leads what is left is at i
record IsAt (bytes : List ℕ) (i : ℕ) (b : ℕ) (left : Option (List ℕ)) : Type 0 where
  inside : i < length bytes
  is : get_or bytes i 0 ≡ b
  after : left ≡ Some (drop (suc i) bytes)
  more : take (suc i) bytes ≡ take i bytes ++ b ∷ []

at_drop : (bytes : List ℕ) (i b : ℕ) (rest : List ℕ) (left : Option (List ℕ)) → i ≤ length bytes
    → drop i bytes ≡ b ∷ rest → left ≡ Some rest → IsAt bytes i b left
at_drop [] zero b rest left l e f = absurd cc
at_drop [] (suc i) b rest left l e f = absurd cc
at_drop (x ∷ bytes) zero b rest left l e f = record {
  inside = omega arith;
  is = ap (λ ys. get_or ys 0 0) e;
  after = f ∙ ap (λ ys. Some (drop 1 ys)) (sym e);
  more = ap (λ ys. get_or ys 0 0 ∷ []) e;
}
at_drop (x ∷ bytes) (suc i) b rest left l e f =
    let at = at_drop bytes i b rest left (omega arith) e f in
    record {
      inside = omega (arith, at.inside);
      is = at.is;
      after = at.after;
      more = ap (λ ys. x ∷ ys) at.more;
    }

at_read : (bytes : List ℕ) (i b : ℕ) (line : List ℕ) (left new : Option (List ℕ))
    → IsReadTo bytes i line left → LeadsBy b left new → IsAt bytes i b new
at_read bytes i b line left new r leads =
    let by : LeadsBy b (Some (drop i bytes)) new = subst (λ o. LeadsBy b o new) r.now leads in
    at_drop bytes i b by.0 new r.within by.1 by.2

none_more : (bytes : List ℕ) (i b : ℕ) → NoneBefore 10 bytes i → get_or bytes i 0 ≡ b → b ≢ 10
    → NoneBefore 10 bytes (i + 1)
none_more bytes i b none is ne k l = elim (cases_eq k i) [
  | inl e ↦ subst (λ j. eqb (get_or bytes j 0) 10 ≡ false) (sym e)
      (ap (λ x. eqb x 10) is ∙ ne_eqb b 10 ne)
  | inr other ↦ none k (omega (arith, other))
]

suc_is : (i : ℕ) → suc i ≡ i + 1
suc_is i = omega arith

-- one byte more of the line
pub read_more : (all left new : Option (List ℕ)) (i b : ℕ) (line next : List ℕ)
    → IfSome all (λ bytes. IsReadTo bytes i line left) → LeadsBy b left new → b ≢ 10
    → next ≡ line ++ b ∷ [] → IfSome all (λ bytes. IsReadTo bytes (i + 1) next new)
read_more None left new i b line next r leads ne e = tt
read_more (Some bytes) left new i b line next r leads ne e =
    let at = at_read bytes i b line left new r leads in
    record {
      within = omega (arith, at.inside);
      read = e ∙ ap (λ ys. ys ++ b ∷ []) r.read ∙ sym at.more ∙ ap (λ j. take j bytes) (suc_is i);
      now = at.after ∙ ap (λ j. Some (drop j bytes)) (suc_is i);
      none = none_more bytes i b r.none at.is ne;
    }

-- as many bytes of the line came
read_short : (bytes : List ℕ) (i : ℕ) (line : List ℕ) (left : Option (List ℕ))
    → IsReadTo bytes i line left → i < 40 → length line < 40
read_short bytes i line left r few =
    omega (arith, few, ap length r.read, length-take-le i bytes r.within)

-- the line feed after it
pub read_line : (all left new : Option (List ℕ)) (i b : ℕ) (line : List ℕ) → i < 40
    → IfSome all (λ bytes. IsReadTo bytes i line left) → LeadsBy b left new → b ≡ 10
    → IfSome all (λ bytes. IsFound bytes new line (Ok Line))
read_line None left new i b line few r leads e = tt
read_line (Some bytes) left new i b line few r leads e =
    let at = at_read bytes i b line left new r leads in
    record {
      short = read_short bytes i line left r few;
      rest = drop (suc i) bytes;
      lines = lines_at bytes i at.inside (eq-eqb (get_or bytes i 0) 10 (at.is ∙ e)) r.none
          ∙ ap (λ ys. ys ∷ lines_of (drop (suc i) bytes)) (sym r.read);
      now = at.after;
    }

all_there : (bytes : List ℕ) (i : ℕ) → i ≤ length bytes → drop i bytes ≡ [] → i ≡ length bytes
all_there [] i l e = omega arith
all_there (x ∷ bytes) zero l e = absurd cc
all_there (x ∷ bytes) (suc i) l e = let rest = all_there bytes i (omega arith) e in omega (arith, rest)

-- the end of the source after it
pub read_end : (all left new : Option (List ℕ)) (i : ℕ) (line : List ℕ) (next : Next) → i < 40
    → IfSome all (λ bytes. IsReadTo bytes i line left) → EndsAt left new
    → (i ≡ 0 → next ≡ End) → (0 < i → next ≡ Line)
    → IfSome all (λ bytes. IsFound bytes new line (Ok next))
read_end None left new i line next few r ends none some = tt
read_end (Some bytes) left new i line next few r ends none some =
    let by : EndsAt (Some (drop i bytes)) new = subst (λ o. EndsAt o new) r.now ends in
    let whole : i ≡ length bytes = all_there bytes i r.within by.0 in
    elim (cases_eq i 0) [
      | inl e ↦ subst (λ (n : Next). IsFound bytes new line (Ok n)) (sym (none e))
          (sym (ap (λ j. drop j bytes) e) ∙ by.0, by.1)
      | inr ne ↦ subst (λ (n : Next). IsFound bytes new line (Ok n)) (sym (some (omega (arith, ne))))
          (record {
            short = read_short bytes i line left r few;
            rest = [];
            lines = lines_none bytes (omega (arith, whole, ne)) (subst (NoneBefore 10 bytes) whole r.none)
                ∙ ap (λ ys. ys ∷ []) (sym (r.read ∙ take_all i bytes (omega (arith, whole))));
            now = by.1;
          })
    ]

tail_none : (b : ℕ) (bs : List ℕ) (i : ℕ) → NoneBefore 10 (b ∷ bs) (suc i) → NoneBefore 10 bs i
tail_none b bs i none k h = none (suc k) (omega arith)

record HasLongFirst (bytes : List ℕ) (n : ℕ) : Type 0 where
  line : List ℕ
  others : List (List ℕ)
  lines : lines_of bytes ≡ line ∷ others
  long : n ≤ length line

onto : (b : ℕ) (ls : List (List ℕ))
    → (line : List ℕ) × (others : List (List ℕ)) × (onto_first b ls ≡ line ∷ others) × (1 ≤ length line)
onto b [] = (b ∷ [], [], refl, omega arith)
onto b (first ∷ others) = (b ∷ first, others, refl, omega arith)

long_first : (n : ℕ) (bytes : List ℕ) → suc n ≤ length bytes → NoneBefore 10 bytes (suc n)
    → HasLongFirst bytes (suc n)
long_first n [] l none = absurd (omega arith)
long_first zero (b ∷ bs) l none =
    let first : eqb b 10 ≡ false = none 0 (omega arith) in
    let by = onto b (lines_of bs) in
    record { line = by.0; others = by.1; lines = rw first by.2; long = by.3 }
long_first (suc n) (b ∷ bs) l none =
    let first : eqb b 10 ≡ false = none 0 (omega arith) in
    let rest = long_first n bs (omega arith) (tail_none b bs (suc n) none) in
    record {
      line = b ∷ rest.line;
      others = rest.others;
      lines = rw (first, rest.lines) refl;
      long = omega (arith, rest.long);
    }

-- no line feed among 40 bytes
pub read_long : (all left : Option (List ℕ)) (i : ℕ) (line : List ℕ) → i ≡ 40
    → IfSome all (λ bytes. IsReadTo bytes i line left)
    → IfSome all (λ bytes. IsFound bytes left line (Ok Long))
read_long None left i line e r = tt
read_long (Some bytes) left i line e r =
    let by = long_first 39 bytes (omega (arith, r.within, e)) (subst (NoneBefore 10 bytes) e r.none) in
    record {
      line = by.line;
      others = by.others;
      lines = by.lines;
      long = by.long;
      now = r.now ∙ ap (λ j. Some (drop j bytes)) e;
    }

none_in : (bytes : List ℕ) (i : ℕ) → NoneBefore 10 bytes i → AllByRecursion (λ b. b ≢ 10) (take i bytes)
none_in [] zero none = tt
none_in [] (suc i) none = tt
none_in (b ∷ bs) zero none = tt
none_in (b ∷ bs) (suc i) none = (
  λ e. differ (sym (none 0 (omega arith)) ∙ eq-eqb b 10 e),
  none_in bs i (tail_none b bs i none),
)
  where
    differ : false ≡ true → ⊥
    differ e = absurd cc

-- a fault of the source
pub read_cut : (all left new : Option (List ℕ)) (i : ℕ) (line : List ℕ) (f : Failed)
    → IfSome all (λ bytes. IsReadTo bytes i line left) → TookAtMost 1 left new
    → IfSome all (λ bytes. IsFound bytes new line (Err f))
read_cut None left new i line f r took = tt
read_cut (Some bytes) left new i line f r took = record {
  part = take i bytes;
  rest = drop i bytes;
  split = sym (take-append-drop i bytes);
  one_line = none_in bytes i r.none;
  took = subst (λ o. TookAtMost 1 o new) r.now took;
}
