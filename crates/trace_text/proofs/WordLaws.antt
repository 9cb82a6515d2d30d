-- Words, and how many numbers come after them.
use Rattle.std.proofs.Common.{◌≡◌, ℕ, zero, suc, ◌^◌, ◌<◌, Bool, true, false, cond, eqb, not, ◌||◌, List, [], ◌∷◌, map, length, decimal, codes, bytes_eq, Option, Some, None, is_some, Result, Ok, Err, refl, sym, ap, subst, ◌∙◌, inl, inr, arith}
use Rattle.std.specs.List.{AllByRecursion, list_any}
use Rattle.std.specs.Option.{ok_or, unwrap_or}
use Rattle.std.proofs.lemmas.Option.{same_Some}
use Rattle.std.proofs.lemmas.Bool.{cases_Bool, cases_eq, eq-eqb, ne_eqb}
use Rattle.std.proofs.lemmas.Slice.Eq.{bytes_eq-Decides}
use Rattle.block_store.specs.declared.Width.{Width}
use Rattle.trace_text.specs.declared.trace_faults.Why.{Why}
use Rattle.trace_text.specs.declared.trace_faults.Why.TheVariants as whys
use Rattle.trace_text.specs.declared.reading.words.Word.{Word}
use Rattle.trace_text.specs.declared.reading.words.Word.TheVariants as words
use Rattle.trace_text.specs.Reading.{number_at}
use Rattle.trace_text.specs.Words.{word_at, has_word, if_known}
use Rattle.trace_text.specs.Said.{◌>>=◌, count_is, values_at, numbers_at}
use Rattle.trace_text.specs.Refusals.{is_number, value_of}
use Rattle.trace_text.proofs.NumberLaws.{number_sound, number_complete}
use Rattle.trace_text.proofs.Binds.{same_Ok}

-- ---- words

abbrev pub word_text : Word → List ℕ
word_text words.Thread = codes "thread"
word_text words.End = codes "end"
word_text words.New = codes "new"
word_text words.Arr = codes "arr"
word_text words.Set = codes "set"
word_text words.Nil = codes "nil"
word_text words.Mov = codes "mov"
word_text words.Get = codes "get"
word_text words.Put = codes "put"
word_text words.Len = codes "len"
word_text words.Same = codes "same"
word_text words.Say = codes "say"
word_text words.Swap = codes "swap"
word_text words.Cas = codes "cas"
word_text words.Idle = codes "idle"

-- one more text is tried
tried : (token text : List ℕ) (w v : Word) (more : Option Word) → word_text w ≡ text
    → (more ≡ Some v → token ≡ word_text v) → cond (bytes_eq token text) (Some w) more ≡ Some v
    → token ≡ word_text v
tried token text w v more is otherwise e =
    elim (cases_Bool (bytes_eq token text)) [
      | inl yes' ↦ (bytes_eq-Decides token text).0 yes' ∙ sym is
          ∙ ap word_text (same_Some w v (subst (λ b. cond b (Some w) more ≡ Some v) yes' e))
      | inr no' ↦ otherwise (subst (λ b. cond b (Some w) more ≡ Some v) no' e)
    ]

pub word_sound : (token : List ℕ) (v : Word) → word_at token ≡ Some v → token ≡ word_text v
word_sound token v e =
    tried token (codes "get") words.Get v _ refl
    (tried token (codes "put") words.Put v _ refl
    (tried token (codes "new") words.New v _ refl
    (tried token (codes "arr") words.Arr v _ refl
    (tried token (codes "set") words.Set v _ refl
    (tried token (codes "mov") words.Mov v _ refl
    (tried token (codes "nil") words.Nil v _ refl
    (tried token (codes "len") words.Len v _ refl
    (tried token (codes "same") words.Same v _ refl
    (tried token (codes "say") words.Say v _ refl
    (tried token (codes "swap") words.Swap v _ refl
    (tried token (codes "cas") words.Cas v _ refl
    (tried token (codes "idle") words.Idle v _ refl
    (tried token (codes "thread") words.Thread v _ refl
    (tried token (codes "end") words.End v None refl (λ none. absurd cc)))))))))))))))
    e

pub word_complete : (v : Word) → word_at (word_text v) ≡ Some v
word_complete words.Thread = refl
word_complete words.End = refl
word_complete words.New = refl
word_complete words.Arr = refl
word_complete words.Set = refl
word_complete words.Nil = refl
word_complete words.Mov = refl
word_complete words.Get = refl
word_complete words.Put = refl
word_complete words.Len = refl
word_complete words.Same = refl
word_complete words.Say = refl
word_complete words.Swap = refl
word_complete words.Cas = refl
word_complete words.Idle = refl

-- a word of a job is a word, and the job has it
pub word_known : (width : Width) (o : Option Word) (v : Word) → if_known width o ≡ Some v
    → (o ≡ Some v) × (has_word width v ≡ true)
word_known width None v e = absurd cc
word_known width (Some w) v e = elim (cases_Bool (has_word width w)) [
  | inl yes' ↦
      let is : Some w ≡ Some v = subst (λ b. cond b (Some w) None ≡ Some v) yes' e in
      (is, ap (has_word width) (sym (same_Some w v is)) ∙ yes')
  | inr no' ↦ absurd (let none : ◌≡◌ {A = Option Word} None (Some v) =
      subst (λ b. cond b (Some w) None ≡ Some v) no' e in cc)
]

-- ---- how many

pub count_map : {A B : Type 0} (f : A → B) (k : ℕ) (xs : List A)
    → count_is k (map f xs) ≡ count_is k xs
count_map f zero [] = refl
count_map f zero (x ∷ xs) = refl
count_map f (suc k) [] = refl
count_map f (suc k) (x ∷ xs) = count_map f k xs

suc_eqb : (m k : ℕ) → eqb (suc m) (suc k) ≡ eqb m k
suc_eqb m k =
    elim (cases_eq m k) [
      | inl e ↦ rw (eq-eqb m k e, eq-eqb (suc m) (suc k) (ap suc e)) refl
      | inr ne ↦ rw (ne_eqb m k ne, ne_eqb (suc m) (suc k) (λ e. ne (omega arith))) refl
    ]

pub count_length : {A : Type 0} (xs : List A) (k : ℕ) → eqb (length xs) k ≡ count_is k xs
count_length [] zero = refl
count_length [] (suc k) = ne_eqb 0 (suc k) (λ e. omega arith)
count_length (x ∷ xs) zero = ne_eqb (suc (length xs)) 0 (λ e. omega arith)
count_length (x ∷ xs) (suc k) = suc_eqb (length xs) k ∙ count_length xs k

-- ---- numbers

one_value : (o : Option ℕ) (ns : List ℕ) (t : Bool) (r : Result (List ℕ) Why)
    → r ≡ cond t (Err whys.Number) (Ok ns)
    → (ok_or o whys.Number >>= λ n. r >>= λ ms. Ok (n ∷ ms))
    ≡ cond (not (is_some o) || t) (Err whys.Number) (Ok (unwrap_or o 0 ∷ ns))
one_value None ns t r e = refl
one_value (Some n) ns true r e = rw e refl
one_value (Some n) ns false r e = rw e refl

-- the values of tokens, where each is a number
pub values_are : (ps : List (List ℕ))
    → values_at ps ≡ cond (list_any (λ token. not (is_number token)) ps) (Err whys.Number)
    (Ok (map value_of ps))
values_are [] = refl
values_are (p ∷ ps) = one_value (number_at p) (map value_of ps)
    (list_any (λ token. not (is_number token)) ps) (values_at ps) (values_are ps)

abbrev pub AreWritten : List ℕ → Type 0
AreWritten ns = AllByRecursion (λ n. n < 10 ^ 19) ns

pub values_complete : (ns : List ℕ) → AreWritten ns → values_at (map decimal ns) ≡ Ok ns
values_complete [] w = refl
values_complete (n ∷ ns) w = rw (number_complete n w.0, values_complete ns w.1) refl

pub numbers_complete : (k : ℕ) (ns : List ℕ) → count_is k ns ≡ true → AreWritten ns
    → numbers_at k (map decimal ns) ≡ Ok ns
unfolding numbers_at
numbers_complete k ns c w = rw (count_map decimal k ns, c) (values_complete ns w)

values_next : (o : Option ℕ) (r : Result (List ℕ) Why) (p : List ℕ) (ps : List (List ℕ))
    (ns : List ℕ) → ((n : ℕ) → o ≡ Some n → p ≡ decimal n)
    → ((ms : List ℕ) → r ≡ Ok ms → ps ≡ map decimal ms)
    → (ok_or o whys.Number >>= λ n. r >>= λ ms. Ok (n ∷ ms)) ≡ Ok ns → p ∷ ps ≡ map decimal ns
values_next None r p ps ns first others e = absurd cc
values_next (Some n) (Err why) p ps ns first others e = absurd cc
values_next (Some n) (Ok ms) p ps ns first others e =
    let is : n ∷ ms ≡ ns = same_Ok (n ∷ ms) ns e in
    ap (λ (q : List ℕ). q ∷ ps) (first n refl)
    ∙ ap (λ (qs : List (List ℕ)). decimal n ∷ qs) (others ms refl) ∙ ap (map decimal) is

pub values_sound : (ps : List (List ℕ)) (ns : List ℕ) → values_at ps ≡ Ok ns → ps ≡ map decimal ns
values_sound [] ns e = ap (map decimal) (same_Ok [] ns e)
values_sound (p ∷ ps) ns e =
    values_next (number_at p) (values_at ps) p ps ns (λ n is. (number_sound p n is).0)
    (λ ms is. values_sound ps ms is) e

from_count : (t : Bool) (r : Result (List ℕ) Why) (ns : List ℕ)
    → cond t r (Err whys.Count) ≡ Ok ns → r ≡ Ok ns
from_count true r ns e = e
from_count false r ns e = absurd cc

pub numbers_sound : (k : ℕ) (ps : List (List ℕ)) (ns : List ℕ) → numbers_at k ps ≡ Ok ns
    → ps ≡ map decimal ns
unfolding numbers_at
numbers_sound k ps ns e = values_sound ps ns (from_count (count_is k ps) (values_at ps) ns e)
