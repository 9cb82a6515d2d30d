-- What a line says is what is written so, what is written is read again, and what says nothing
-- has the reason of the first test that holds.
use Rattle.std.proofs.Common.{◌≡◌, ◌≢◌, ℕ, ◌^◌, ◌<◌, ◌≤◌, Bool, true, false, cond, leb, ltb, eqb, not, ◌&&◌, ◌||◌, List, [], ◌∷◌, map, length, decimal, Option, Some, None, Result, Ok, Err, refl, sym, ap, subst, ◌∙◌, ◌⊎◌, inl, inr, arith}
use Rattle.std.specs.List.{list_any}
use Rattle.std.specs.Option.{ok_or}
use Rattle.std.proofs.lemmas.Bool.{eq-eqb, ne_eqb}
use Rattle.std.proofs.lemmas.Bool.Decides.{nat_tests}
use Rattle.block_store.specs.declared.Config.{Config}
use Rattle.block_store.specs.declared.TheConstants.{REGISTERS}
use Rattle.block_store.specs.declared.Width.{Width}
use Rattle.block_store.specs.declared.Width.TheVariants.{Four, Eight}
use Rattle.object_lists.specs.Records.{record_blocks}
use Rattle.array_trees.specs.Trees.{array_blocks}
use Rattle.never_heap.specs.declared.Command.{Command}
use Rattle.never_heap.specs.declared.Command.TheVariants as commands
use Rattle.never_heap.specs.Bounds.{IsCommandInBounds}
use Rattle.never_heap.specs.Signatures as signed
use Rattle.never_heap.specs.Signatures.{numbers}
use Rattle.never_heap.proofs.Lemmas.{operands_in_range, operands_low}
use Rattle.trace_text.specs.declared.trace_faults.Why.{Why}
use Rattle.trace_text.specs.declared.trace_faults.Why.TheVariants as whys
use Rattle.trace_text.specs.declared.reading.lines.Line.{Line}
use Rattle.trace_text.specs.declared.reading.lines.Line.TheVariants.{Thread, End, Told}
use Rattle.trace_text.specs.declared.reading.lines.Place.{Place}
use Rattle.trace_text.specs.declared.reading.words.Word.{Word}
use Rattle.trace_text.specs.declared.reading.words.Word.TheVariants as words
use Rattle.trace_text.specs.Spellings.{command_line}
use Rattle.trace_text.specs.Words.{word_at, word_in, has_word, is_wide, is_command, operands}
use Rattle.trace_text.specs.Said.{◌>>=◌, HasRegisters, IsOfWidth, is_oversized, register_at, length_at, fitted, count_is, numbers_at, on_none, on_one, on_two, on_three, on_four, told_at, operands_at, in_turn, line_at}
use Rattle.trace_text.specs.Refusals.{Before, first_of, is_number, value_of, any_operand, is_high_register, is_too_large, is_out_of_turn, word_fault, later_fault}
use Rattle.trace_text.proofs.Sizes.{in_ranges, not_oversized}
use Rattle.trace_text.proofs.CommandWords.{are_written, spelled, word_of}
use Rattle.trace_text.proofs.WordLaws.{word_text, word_known, word_sound, word_complete, count_map, count_length, values_are, AreWritten, numbers_complete, numbers_sound}
use Rattle.trace_text.proofs.Binds.{same_Ok}

-- the reason of an answer
abbrev pub reason : {A : Type 0} → Result A Why → Option Why
reason (Ok x) = None
reason (Err why) = Some why

-- after t threads, the last with k commands so far
abbrev pub place : Config → ℕ → ℕ → Place
place c t k = record { config = c; threads = t; full = leb 131072 k }

abbrev pub prior : ℕ → ℕ → Before
prior t k = record { threads = t; commands = k; ended = false }

-- ---- numbers by their count

at_none : (P : List ℕ → Type 0) (ns : List ℕ) → count_is 0 ns ≡ true → P [] → P ns
at_none P [] h go = go
at_none P (a ∷ ns) h go = absurd cc

at_one : (P : List ℕ → Type 0) (ns : List ℕ) → count_is 1 ns ≡ true → ((a : ℕ) → P (a ∷ [])) → P ns
at_one P [] h go = absurd cc
at_one P (a ∷ []) h go = go a
at_one P (a ∷ b ∷ ns) h go = absurd cc

at_two : (P : List ℕ → Type 0) (ns : List ℕ) → count_is 2 ns ≡ true → ((a b : ℕ) → P (a ∷ b ∷ []))
    → P ns
at_two P [] h go = absurd cc
at_two P (a ∷ []) h go = absurd cc
at_two P (a ∷ b ∷ []) h go = go a b
at_two P (a ∷ b ∷ d ∷ ns) h go = absurd cc

at_three : (P : List ℕ → Type 0) (ns : List ℕ) → count_is 3 ns ≡ true
    → ((a b d : ℕ) → P (a ∷ b ∷ d ∷ [])) → P ns
at_three P [] h go = absurd cc
at_three P (a ∷ []) h go = absurd cc
at_three P (a ∷ b ∷ []) h go = absurd cc
at_three P (a ∷ b ∷ d ∷ []) h go = go a b d
at_three P (a ∷ b ∷ d ∷ e ∷ ns) h go = absurd cc

at_four : (P : List ℕ → Type 0) (ns : List ℕ) → count_is 4 ns ≡ true
    → ((a b d e : ℕ) → P (a ∷ b ∷ d ∷ e ∷ [])) → P ns
at_four P [] h go = absurd cc
at_four P (a ∷ []) h go = absurd cc
at_four P (a ∷ b ∷ []) h go = absurd cc
at_four P (a ∷ b ∷ d ∷ []) h go = absurd cc
at_four P (a ∷ b ∷ d ∷ e ∷ []) h go = go a b d e
at_four P (a ∷ b ∷ d ∷ e ∷ g ∷ ns) h go = absurd cc

from_none : (P : List ℕ → Type 0) (ns : List ℕ) (f : Result Line Why) (l : Line)
    → on_none ns f ≡ Ok l → (f ≡ Ok l → P []) → P ns
from_none P [] f l e go = go e
from_none P (a ∷ ns) f l e go = absurd cc

from_one : (P : List ℕ → Type 0) (ns : List ℕ) (f : ℕ → Result Line Why) (l : Line)
    → on_one ns f ≡ Ok l → ((a : ℕ) → f a ≡ Ok l → P (a ∷ [])) → P ns
from_one P [] f l e go = absurd cc
from_one P (a ∷ []) f l e go = go a e
from_one P (a ∷ b ∷ ns) f l e go = absurd cc

from_two : (P : List ℕ → Type 0) (ns : List ℕ) (f : ℕ → ℕ → Result Line Why) (l : Line)
    → on_two ns f ≡ Ok l → ((a b : ℕ) → f a b ≡ Ok l → P (a ∷ b ∷ [])) → P ns
from_two P [] f l e go = absurd cc
from_two P (a ∷ []) f l e go = absurd cc
from_two P (a ∷ b ∷ []) f l e go = go a b e
from_two P (a ∷ b ∷ d ∷ ns) f l e go = absurd cc

from_three : (P : List ℕ → Type 0) (ns : List ℕ) (f : ℕ → ℕ → ℕ → Result Line Why) (l : Line)
    → on_three ns f ≡ Ok l → ((a b d : ℕ) → f a b d ≡ Ok l → P (a ∷ b ∷ d ∷ [])) → P ns
from_three P [] f l e go = absurd cc
from_three P (a ∷ []) f l e go = absurd cc
from_three P (a ∷ b ∷ []) f l e go = absurd cc
from_three P (a ∷ b ∷ d ∷ []) f l e go = go a b d e
from_three P (a ∷ b ∷ d ∷ g ∷ ns) f l e go = absurd cc

from_four : (P : List ℕ → Type 0) (ns : List ℕ) (f : ℕ → ℕ → ℕ → ℕ → Result Line Why) (l : Line)
    → on_four ns f ≡ Ok l → ((a b d e : ℕ) → f a b d e ≡ Ok l → P (a ∷ b ∷ d ∷ e ∷ [])) → P ns
from_four P [] f l e go = absurd cc
from_four P (a ∷ []) f l e go = absurd cc
from_four P (a ∷ b ∷ []) f l e go = absurd cc
from_four P (a ∷ b ∷ d ∷ []) f l e go = absurd cc
from_four P (a ∷ b ∷ d ∷ g ∷ []) f l e go = go a b d g e
from_four P (a ∷ b ∷ d ∷ g ∷ h ∷ ns) f l e go = absurd cc

-- ---- the tests of a word's numbers

turns : (x x' : Bool) (l : Line) → x ≡ x'
    → reason (cond x (Err whys.Order) (Ok l)) ≡ cond x' (Some whys.Order) None
turns true x' l e = ap (λ (y : Bool). cond y (Some whys.Order) None) e
turns false x' l e = ap (λ (y : Bool). cond y (Some whys.Order) None) e

or_false : (a : Bool) → a ≡ (a || false)
or_false true = refl
or_false false = refl

or_turn : (a b : Bool) → (a || b) ≡ ((a || false) || b)
or_turn a b = ap (λ (x : Bool). x || b) (or_false a)

sized : (x x' : Bool) (l : Line) → x ≡ x'
    → reason (cond x (Err whys.Size) (Ok l)) ≡ cond x' (Some whys.Size) None
sized true x' l e = ap (λ (y : Bool). cond y (Some whys.Size) None) e
sized false x' l e = ap (λ (y : Bool). cond y (Some whys.Size) None) e

-- the tests of one register, and of two
one_test : (r : Bool) (n : ℕ) (told : ℕ → Result Line Why) (o : Option Why)
    → reason (told n) ≡ o
    → reason (cond r (Err whys.Register) (Ok n) >>= told)
    ≡ cond (r || false) (Some whys.Register) o
one_test true n told o e = refl
one_test false n told o e = e

two_tests : (r s : Bool) (n m : ℕ) (told : ℕ → ℕ → Result Line Why) (o : Option Why)
    → reason (told n m) ≡ o
    → reason (cond r (Err whys.Register) (Ok n) >>= λ a.
    cond s (Err whys.Register) (Ok m) >>= λ b. told a b)
    ≡ cond (r || (s || false)) (Some whys.Register) o
two_tests true s n m told o e = refl
two_tests false true n m told o e = refl
two_tests false false n m told o e = e

three_tests : (r s q : Bool) (n m k : ℕ) (told : ℕ → ℕ → ℕ → Result Line Why) (o : Option Why)
    → reason (told n m k) ≡ o
    → reason (cond r (Err whys.Register) (Ok n) >>= λ a.
    cond s (Err whys.Register) (Ok m) >>= λ b. cond q (Err whys.Register) (Ok k) >>= λ d.
    told a b d) ≡ cond (r || (s || (q || false))) (Some whys.Register) o
three_tests true s q n m k told o e = refl
three_tests false true q n m k told o e = refl
three_tests false false true n m k told o e = refl
three_tests false false false n m k told o e = e

-- a length that has more than 32 bits is too long
length_test : (z x : Bool) (n : ℕ) (told : ℕ → Result Line Why) → (z ≡ true → x ≡ true)
    → reason (told n) ≡ cond x (Some whys.Size) None
    → reason (cond z (Err whys.Size) (Ok n) >>= told) ≡ cond x (Some whys.Size) None
length_test true x n told h e = rw (h refl) refl
length_test false x n told h e = e

too_long : (n : ℕ) (b f : Bool) → leb (2 ^ 32) n ≡ true
    → (((ltb 65535 n || b) || false) || f) ≡ true
too_long n b f e = let long : ltb 65535 n ≡ true = grind (arith, nat_tests) in rw long refl

abbrev Agrees : Config → ℕ → ℕ → Word → List ℕ → Type 0
Agrees c t k w ns =
    reason (told_at (place c t k) w ns) ≡ first_of (
    (is_out_of_turn c (prior t k) w ns, whys.Order)
    ∷ (any_operand is_high_register (operands w) ns, whys.Register)
    ∷ (any_operand (is_too_large c) (operands w) ns || (is_command w && leb 131072 k), whys.Size)
    ∷ [])

told_agree : (c : Config) (t k : ℕ) (w : Word) (ns : List ℕ)
    → count_is (length (operands w)) ns ≡ true → Agrees c t k w ns
unfolding told_at
told_agree c t k words.Thread ns h =
    at_one (Agrees c t k words.Thread) ns h
    (λ n. turns _ _ (Thread n) (or_turn (not (eqb n t)) (eqb t c.threads)))
told_agree c t k words.End ns h = at_none (Agrees c t k words.End) ns h (turns _ _ End refl)
told_agree c t k words.New ns h =
    at_two (Agrees c t k words.New) ns h
    (λ d n. one_test (leb REGISTERS d) d _ _
    (length_test (leb (2 ^ 32) n) _ n _
    (too_long n (ltb c.object (record_blocks c.width n)) (leb 131072 k))
    (sized _ _ (Told (commands.New d n))
    refl)))
told_agree c t k words.Arr ns h =
    at_two (Agrees c t k words.Arr) ns h
    (λ d n. one_test (leb REGISTERS d) d _ _
    (length_test (leb (2 ^ 32) n) _ n _
    (too_long n (ltb c.object (array_blocks c.width n)) (leb 131072 k))
    (sized _ _ (Told (commands.Arr d n))
    refl)))
told_agree c t k words.Set ns h =
    at_two (Agrees c t k words.Set) ns h
    (λ d v. one_test (leb REGISTERS d) d _ _
    (sized _ _ (Told (commands.Set d v)) refl))
told_agree c t k words.Nil ns h =
    at_one (Agrees c t k words.Nil) ns h
    (λ s. one_test (leb REGISTERS s) s _ _ (sized _ _ (Told (commands.Nil s)) refl))
told_agree c t k words.Mov ns h =
    at_two (Agrees c t k words.Mov) ns h
    (λ a b. two_tests (leb REGISTERS a) (leb REGISTERS b) a b _ _
    (sized _ _ (Told (commands.Mov a b)) refl))
told_agree c t k words.Get ns h =
    at_three (Agrees c t k words.Get) ns h
    (λ d s i. two_tests (leb REGISTERS d) (leb REGISTERS s) d s _ _
    (sized _ _ (Told (commands.Get d s i)) refl))
told_agree c t k words.Put ns h =
    at_three (Agrees c t k words.Put) ns h
    (λ s i v. two_tests (leb REGISTERS s) (leb REGISTERS v) s v _ _
    (sized _ _ (Told (commands.Put s i v)) refl))
told_agree c t k words.Len ns h =
    at_one (Agrees c t k words.Len) ns h
    (λ s. one_test (leb REGISTERS s) s _ _ (sized _ _ (Told (commands.Len s)) refl))
told_agree c t k words.Same ns h =
    at_two (Agrees c t k words.Same) ns h
    (λ a b. two_tests (leb REGISTERS a) (leb REGISTERS b) a b _ _
    (sized _ _ (Told (commands.Same a b)) refl))
told_agree c t k words.Say ns h =
    at_one (Agrees c t k words.Say) ns h
    (λ s. one_test (leb REGISTERS s) s _ _ (sized _ _ (Told (commands.Say s)) refl))
told_agree c t k words.Swap ns h =
    at_three (Agrees c t k words.Swap) ns h
    (λ s i v. two_tests (leb REGISTERS s) (leb REGISTERS v) s v _ _
    (sized _ _ (Told (commands.Swap s i v)) refl))
told_agree c t k words.Cas ns h =
    at_four (Agrees c t k words.Cas) ns h
    (λ s i a v. three_tests (leb REGISTERS s) (leb REGISTERS a) (leb REGISTERS v) s a v _ _
    (sized _ _ (Told (commands.Cas s i a v)) refl))
told_agree c t k words.Idle ns h =
    at_one (Agrees c t k words.Idle) ns h
    (λ u. sized _ _ (Told (commands.Idle u)) refl)

first_test : (x : Bool) (why : Why) (r : Result Line Why) (o : Option Why) → reason r ≡ o
    → reason (cond x (Err why) r) ≡ cond x (Some why) o
first_test true why r o e = refl
first_test false why r o e = e

counted : (n m : Bool) (ns : List ℕ) (f : List ℕ → Result Line Why) (o : Option Why)
    → (n ≡ true → reason (f ns) ≡ o)
    → reason ((cond n (cond m (Err whys.Number) (Ok ns)) (Err whys.Count)) >>= f)
    ≡ cond (not n) (Some whys.Count) (cond m (Some whys.Number) o)
counted false m ns f o h = refl
counted true true ns f o h = refl
counted true false ns f o h = h refl

turn_agree : (c : Config) (t k : ℕ) (w : Word) (ps : List (List ℕ))
    → reason (in_turn (place c t k) w ps) ≡ word_fault c (prior t k) (Some w) ps
unfolding operands_at numbers_at
turn_agree c t k w ps =
    let n = length (operands w) in
    first_test (is_command w && eqb t 0) whys.Order _ _
    (rw (values_are ps, count_length ps n)
    (counted (count_is n ps) (list_any (λ token. not (is_number token)) ps) (map value_of ps)
    (told_at (place c t k) w) _
    (λ h. told_agree c t k w (map value_of ps) (count_map value_of n ps ∙ h))))

named_agree : (c : Config) (t k : ℕ) (o : Option Word) (ps : List (List ℕ))
    → reason (ok_or o whys.Word >>= λ w. in_turn (place c t k) w ps)
    ≡ word_fault c (prior t k) o ps
named_agree c t k None ps = refl
named_agree c t k (Some w) ps = turn_agree c t k w ps

-- a line says something exactly where nothing is wrong with it
pub line_agrees : (c : Config) (t k : ℕ) (ps : List (List ℕ))
    → later_fault c (prior t k) ps ≡ reason (line_at (place c t k) ps)
unfolding later_fault line_at
line_agrees c t k [] = refl
line_agrees c t k (first ∷ ps) = sym (named_agree c t k (word_in c.width first) ps)

-- ---- what is said is what is written so

abbrev pub line_text : Line → List (List ℕ)
line_text (Thread t) = word_text words.Thread ∷ decimal t ∷ []
line_text End = word_text words.End ∷ []
line_text (Told command) = command_line command

-- a line after t threads and k commands of the last
abbrev pub Fits : Config → ℕ → ℕ → Line → Type 0
Fits c t k (Thread n) = (n ≡ t) × (t ≢ c.threads)
Fits c t k End = t ≡ c.threads
Fits c t k (Told command) = IsCommandInBounds c command × (k < 131072)

-- a word and the numbers after it say this
pub record Says (c : Config) (t k : ℕ) (w : Word) (l : Line) (ns : List ℕ) : Type 0 where
  pub text : word_text w ∷ map decimal ns ≡ line_text l
  pub fits : Fits c t k l
  pub command : is_command w ≡ false → (l ≡ Thread t) ⊎ (l ≡ End)

in_order : (r : Bool) (x l : Line) → cond r (Err whys.Order) (Ok x) ≡ Ok l → (r ≡ false) × (x ≡ l)
in_order true x l e = absurd cc
in_order false x l e = (refl, same_Ok x l e)

-- what the tests of the words mean
past : (b : Bool) (why : Why) (n : ℕ) (told : ℕ → Result Line Why) (l : Line)
    → (cond b (Err why) (Ok n) >>= told) ≡ Ok l → (b ≡ false) × (told n ≡ Ok l)
past true why n told l e = absurd cc
past false why n told l e = (refl, e)

low : (n : ℕ) → leb REGISTERS n ≡ false → n < REGISTERS
low n e = grind (arith, nat_tests)

from_low : (n : ℕ) (told : ℕ → Result Line Why) (l : Line) → (register_at n >>= told) ≡ Ok l
    → (n < REGISTERS) × (told n ≡ Ok l)
from_low n told l e = let p = past (leb REGISTERS n) whys.Register n told l e in (low n p.0, p.1)

from_length : (n : ℕ) (told : ℕ → Result Line Why) (l : Line) → (length_at n >>= told) ≡ Ok l
    → told n ≡ Ok l
from_length n told l e = (past (leb (2 ^ 32) n) whys.Size n told l e).1

sizes_fit : (x f : Bool) (l m : Line) → cond (x || f) (Err whys.Size) (Ok l) ≡ Ok m
    → (x ≡ false) × (f ≡ false) × (l ≡ m)
sizes_fit true f l m e = absurd cc
sizes_fit false true l m e = absurd cc
sizes_fit false false l m e = (refl, refl, same_Ok l m e)

few : (k : ℕ) → leb 131072 k ≡ false → k < 131072
few k e = grind (arith, nat_tests)

abbrev says : (c : Config) (t k : ℕ) (w : Word) (x l : Line) (ns : List ℕ) → x ≡ l
    → Says c t k w x ns → Says c t k w l ns
says c t k w x l ns e s = subst (λ (y : Line). Says c t k w y ns) e s

thread_turn : (n t m : ℕ) → (not (eqb n t) || eqb t m) ≡ false → (n ≡ t) × (t ≢ m)
thread_turn n t m r = (grind (arith, nat_tests), λ e. grind (arith, nat_tests, e))

end_turn : (t m : ℕ) → not (eqb t m) ≡ false → t ≡ m
end_turn t m r = grind (arith, nat_tests)

-- a command that is told is on its line, and is in its ranges
says_told : (c : Config) (t k : ℕ) (w : Word) (command : Command) (ns : List ℕ) (l : Line)
    → HasRegisters command → word_text w ∷ map decimal ns ≡ command_line command
    → is_command w ≡ true → IsOfWidth c.width command → fitted (place c t k) command ≡ Ok l
    → Says c t k w l ns
says_told c t k w command ns l h text is o e =
    let p = sizes_fit (is_oversized c command) (leb 131072 k) (Told command) l e in
    says c t k w (Told command) l ns p.2 record {
      text = text;
      fits = (in_ranges c command h o p.0, few k p.1);
      command = λ not'. let no : true ≡ false = sym is ∙ not' in absurd cc;
    }

wide : (width : Width) → is_wide width ≡ true → width ≡ Eight
wide Four e = absurd cc
wide Eight e = refl

told_sound : (c : Config) (t k : ℕ) (w : Word) (ns : List ℕ) (l : Line) → has_word c.width w ≡ true
    → told_at (place c t k) w ns ≡ Ok l → Says c t k w l ns
unfolding told_at
told_sound c t k words.Thread ns l known e =
    from_one (Says c t k words.Thread l) ns _ l e (λ n f.
    let p = in_order (not (eqb n t) || eqb t c.threads) (Thread n) l f in
    let turn = thread_turn n t c.threads p.0 in
    says c t k words.Thread (Thread n) l
    (n ∷ []) p.1 record { text = refl; fits = turn; command = λ _. inl (ap Thread turn.0) })
told_sound c t k words.End ns l known e =
    from_none (Says c t k words.End l) ns _ l e (λ f.
    let p = in_order (not (eqb t c.threads)) End l f in
    says c t k words.End End l [] p.1 record {
      text = refl;
      fits = end_turn t c.threads p.0;
      command = λ _. inr refl;
    })
told_sound c t k words.New ns l known e =
    from_two (Says c t k words.New l) ns _ l e (λ d n f.
    let p = from_low d _ l f in
    says_told c t k words.New (commands.New d n) (d ∷ n ∷ []) l p.0 refl refl tt
    (from_length n _ l p.1))
told_sound c t k words.Arr ns l known e =
    from_two (Says c t k words.Arr l) ns _ l e (λ d n f.
    let p = from_low d _ l f in
    says_told c t k words.Arr (commands.Arr d n) (d ∷ n ∷ []) l p.0 refl refl tt
    (from_length n _ l p.1))
told_sound c t k words.Set ns l known e =
    from_two (Says c t k words.Set l) ns _ l e (λ d v f.
    let p = from_low d _ l f in
    says_told c t k words.Set (commands.Set d v) (d ∷ v ∷ []) l p.0 refl refl tt p.1)
told_sound c t k words.Nil ns l known e =
    from_one (Says c t k words.Nil l) ns _ l e (λ s f.
    let p = from_low s _ l f in
    says_told c t k words.Nil (commands.Nil s) (s ∷ []) l p.0 refl refl tt p.1)
told_sound c t k words.Mov ns l known e =
    from_two (Says c t k words.Mov l) ns _ l e (λ a b f.
    let p = from_low a _ l f in
    let q = from_low b _ l p.1 in
    says_told c t k words.Mov (commands.Mov a b) (a ∷ b ∷ []) l (p.0, q.0) refl refl tt q.1)
told_sound c t k words.Get ns l known e =
    from_three (Says c t k words.Get l) ns _ l e (λ d s i f.
    let p = from_low d _ l f in
    let q = from_low s _ l p.1 in
    says_told c t k words.Get (commands.Get d s i) (d ∷ s ∷ i ∷ []) l (p.0, q.0) refl refl tt q.1)
told_sound c t k words.Put ns l known e =
    from_three (Says c t k words.Put l) ns _ l e (λ s i v f.
    let p = from_low s _ l f in
    let q = from_low v _ l p.1 in
    says_told c t k words.Put (commands.Put s i v) (s ∷ i ∷ v ∷ []) l (p.0, q.0) refl refl tt q.1)
told_sound c t k words.Len ns l known e =
    from_one (Says c t k words.Len l) ns _ l e (λ s f.
    let p = from_low s _ l f in
    says_told c t k words.Len (commands.Len s) (s ∷ []) l p.0 refl refl tt p.1)
told_sound c t k words.Same ns l known e =
    from_two (Says c t k words.Same l) ns _ l e (λ a b f.
    let p = from_low a _ l f in
    let q = from_low b _ l p.1 in
    says_told c t k words.Same (commands.Same a b) (a ∷ b ∷ []) l (p.0, q.0) refl refl tt q.1)
told_sound c t k words.Say ns l known e =
    from_one (Says c t k words.Say l) ns _ l e (λ s f.
    let p = from_low s _ l f in
    says_told c t k words.Say (commands.Say s) (s ∷ []) l p.0 refl refl tt p.1)
told_sound c t k words.Swap ns l known e =
    from_three (Says c t k words.Swap l) ns _ l e (λ s i v f.
    let p = from_low s _ l f in
    let q = from_low v _ l p.1 in
    says_told c t k words.Swap (commands.Swap s i v) (s ∷ i ∷ v ∷ []) l (p.0, q.0) refl refl
    (wide c.width known) q.1)
told_sound c t k words.Cas ns l known e =
    from_four (Says c t k words.Cas l) ns _ l e (λ s i a v f.
    let p = from_low s _ l f in
    let q = from_low a _ l p.1 in
    let r = from_low v _ l q.1 in
    says_told c t k words.Cas (commands.Cas s i a v) (s ∷ i ∷ a ∷ v ∷ []) l (p.0, q.0, r.0) refl
    refl (wide c.width known) r.1)
told_sound c t k words.Idle ns l known e =
    from_one (Says c t k words.Idle l) ns _ l e (λ u f.
    says_told c t k words.Idle (commands.Idle u) (u ∷ []) l tt refl refl (wide c.width known) f)

-- the same for what follows from two steps
pub bind_ok : {A B P : Type 0} (r : Result A Why) (f : A → Result B Why) (y : B)
    → (r >>= f) ≡ Ok y → ((x : A) → r ≡ Ok x → f x ≡ Ok y → P) → P
bind_ok (Err why) f y e go = absurd cc
bind_ok (Ok x) f y e go = go x refl e

pub from_option : {A : Type 0} (o : Option A) (why : Why) (x : A) → ok_or o why ≡ Ok x → o ≡ Some x
from_option None why x e = absurd cc
from_option (Some y) why x e = ap Some (same_Ok y x e)

-- what a line says after t threads and k commands of the last
pub record SaysLine (c : Config) (t k : ℕ) (ps : List (List ℕ)) (l : Line) : Type 0 where
  pub text : ps ≡ line_text l
  pub fits : Fits c t k l
  pub opens : t ≡ 0 → (l ≡ Thread t) ⊎ (l ≡ End)

not_refused : (x : Bool) (r : Result Line Why) (l : Line) → cond x (Err whys.Order) r ≡ Ok l
    → (x ≡ false) × (r ≡ Ok l)
not_refused true r l e = absurd cc
not_refused false r l e = (refl, e)

no_command : (x : Bool) (t : ℕ) → (x && eqb t 0) ≡ false → t ≡ 0 → x ≡ false
no_command true t e z = let is : eqb t 0 ≡ true = eq-eqb t 0 z in absurd cc
no_command false t e z = refl

turn_sound : (c : Config) (t k : ℕ) (w : Word) (first : List ℕ) (ps : List (List ℕ)) (l : Line)
    → first ≡ word_text w → has_word c.width w ≡ true → in_turn (place c t k) w ps ≡ Ok l
    → SaysLine c t k (first ∷ ps) l
unfolding operands_at
turn_sound c t k w first ps l named known e =
    let told = not_refused (is_command w && eqb t 0)
    (numbers_at (length (operands w)) ps >>= told_at (place c t k) w) l e in
    bind_ok (numbers_at (length (operands w)) ps) (told_at (place c t k) w) l told.1 (λ ns are says.
    let s = told_sound c t k w ns l known says in
    record {
      text = ap (λ (p : List ℕ). p ∷ ps) named
          ∙ ap (λ (qs : List (List ℕ)). word_text w ∷ qs)
          (numbers_sound (length (operands w)) ps ns are) ∙ s.text;
      fits = s.fits;
      opens = λ z. s.command (no_command (is_command w) t told.0 z);
    })

pub line_sound : (c : Config) (t k : ℕ) (ps : List (List ℕ)) (l : Line)
    → line_at (place c t k) ps ≡ Ok l → SaysLine c t k ps l
unfolding line_at
line_sound c t k [] l e = absurd cc
line_sound c t k (first ∷ ps) l e =
    bind_ok (ok_or (word_in c.width first) whys.Word) (λ w. in_turn (place c t k) w ps) l e
    (λ w is told.
    let named = word_known c.width (word_at first) w
    (from_option (word_in c.width first) whys.Word w is) in
    turn_sound c t k w first ps l (word_sound first w named.0) named.1 told)

-- ---- what is written is read again

abbrev line_word : Line → Word
line_word (Thread t) = words.Thread
line_word End = words.End
line_word (Told command) = word_of command

abbrev line_numbers : Line → List ℕ
line_numbers (Thread t) = t ∷ []
line_numbers End = []
line_numbers (Told command) = numbers command

-- how a line is written
record IsWritten (l : Line) : Type 0 where
  text : line_text l ≡ word_text (line_word l) ∷ map decimal (line_numbers l)
  count : count_is (length (operands (line_word l))) (line_numbers l) ≡ true

written : (l : Line) → IsWritten l
written (Thread t) = record { text = refl; count = refl }
written End = record { text = refl; count = refl }
written (Told command) = record {
  text = ap (λ (t : List ℕ). t ∷ map decimal (numbers command)) (spelled command).text;
  count = (spelled command).count;
}

small : (c : Config) (t k : ℕ) (l : Line) → t < 10 ^ 19 → Fits c t k l → AreWritten (line_numbers l)
small c t k (Thread n) le f = (omega (arith, f.0), tt)
small c t k End le f = tt
small c t k (Told command) le f =
    are_written (numbers command)
    (operands_low (signed.operands command) (operands_in_range command f.0.range))

passes : (b : Bool) (why : Why) (n : ℕ) (told : ℕ → Result Line Why) (r : Result Line Why)
    → b ≡ false → told n ≡ r → (cond b (Err why) (Ok n) >>= told) ≡ r
passes true why n told r is e = absurd cc
passes false why n told r is e = e

is_low : (n : ℕ) → n < REGISTERS → leb REGISTERS n ≡ false
is_low n h = grind (arith, nat_tests)

is_few : (k : ℕ) → k < 131072 → leb 131072 k ≡ false
is_few k h = grind (arith, nat_tests)

has_low : (n : ℕ) (told : ℕ → Result Line Why) (r : Result Line Why) → n < REGISTERS → told n ≡ r
    → (register_at n >>= told) ≡ r
has_low n told r h e = passes (leb REGISTERS n) whys.Register n told r (is_low n h) e

has_length : (n : ℕ) (told : ℕ → Result Line Why) (r : Result Line Why) → n ≤ 65535
    → told n ≡ r → (length_at n >>= told) ≡ r
has_length n told r h e =
    let short : leb (2 ^ 32) n ≡ false = grind (arith, nat_tests) in
    passes (leb (2 ^ 32) n) whys.Size n told r short e

fitting : (c : Config) (t k : ℕ) (command : Command) → IsCommandInBounds c command × (k < 131072)
    → fitted (place c t k) command ≡ Ok (Told command)
fitting c t k command f = rw (not_oversized c command f.0, is_few k f.1) refl

told_complete : (c : Config) (t k : ℕ) (l : Line) → Fits c t k l
    → told_at (place c t k) (line_word l) (line_numbers l) ≡ Ok l
unfolding told_at
told_complete c t k (Thread n) f = rw (eq-eqb n t f.0, ne_eqb t c.threads f.1) refl
told_complete c t k End f = rw (eq-eqb t c.threads f) refl
told_complete c t k (Told (commands.New d n)) f =
    has_low d _ _ f.0.range.0 (has_length n _ _ f.0.range.1 (fitting c t k (commands.New d n) f))
told_complete c t k (Told (commands.Arr d n)) f =
    has_low d _ _ f.0.range.0 (has_length n _ _ f.0.range.1 (fitting c t k (commands.Arr d n) f))
told_complete c t k (Told (commands.Set d v)) f =
    has_low d _ _ f.0.range.0 (fitting c t k (commands.Set d v) f)
told_complete c t k (Told (commands.Nil d)) f =
    has_low d _ _ f.0.range (fitting c t k (commands.Nil d) f)
told_complete c t k (Told (commands.Mov d s)) f =
    has_low d _ _ f.0.range.0 (has_low s _ _ f.0.range.1 (fitting c t k (commands.Mov d s) f))
told_complete c t k (Told (commands.Get d s i)) f =
    has_low d _ _ f.0.range.0 (has_low s _ _ f.0.range.1 (fitting c t k (commands.Get d s i) f))
told_complete c t k (Told (commands.Put s i v)) f =
    has_low s _ _ f.0.range.0 (has_low v _ _ f.0.range.2 (fitting c t k (commands.Put s i v) f))
told_complete c t k (Told (commands.Len s)) f =
    has_low s _ _ f.0.range (fitting c t k (commands.Len s) f)
told_complete c t k (Told (commands.Same a b)) f =
    has_low a _ _ f.0.range.0 (has_low b _ _ f.0.range.1 (fitting c t k (commands.Same a b) f))
told_complete c t k (Told (commands.Say s)) f =
    has_low s _ _ f.0.range (fitting c t k (commands.Say s) f)
told_complete c t k (Told (commands.Swap s i v)) f =
    has_low s _ _ f.0.range.0 (has_low v _ _ f.0.range.2 (fitting c t k (commands.Swap s i v) f))
told_complete c t k (Told (commands.Cas s i a v)) f =
    has_low s _ _ f.0.range.0 (has_low a _ _ f.0.range.2 (has_low v _ _ f.0.range.3
    (fitting c t k (commands.Cas s i a v) f)))
told_complete c t k (Told (commands.Idle u)) f = fitting c t k (commands.Idle u) f

abbrev pub is_told : Line → Bool
is_told (Thread t) = false
is_told End = false
is_told (Told command) = true

told_word : (l : Line) → is_command (line_word l) ≡ is_told l
told_word (Thread t) = refl
told_word End = refl
told_word (Told command) = (spelled command).command

-- and is a word of the job
word_there : (c : Config) (t k : ℕ) (l : Line) → Fits c t k l
    → has_word c.width (line_word l) ≡ true
word_there c t k (Thread n) f = refl
word_there c t k End f = refl
word_there c t k (Told command) f = (spelled command).version c.width f.0.version

pub line_complete : (c : Config) (t k : ℕ) (l : Line) → t < 10 ^ 19 → Fits c t k l
    → (is_told l && eqb t 0) ≡ false → line_at (place c t k) (line_text l) ≡ Ok l
unfolding line_at operands_at
line_complete c t k l le f turn =
    let w = written l in
    let behind : (is_command (line_word l) && eqb t 0) ≡ false =
    ap (λ (x : Bool). x && eqb t 0) (told_word l) ∙ turn in
    rw (
      w.text,
      word_complete (line_word l),
      word_there c t k l f,
      behind,
      numbers_complete (length (operands (line_word l))) (line_numbers l) w.count
          (small c t k l le f),
    ) (told_complete c t k l f)
