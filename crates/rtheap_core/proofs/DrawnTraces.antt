-- How a generated trace goes on, and the traces of a job, from what is left of them.
use Rattle.std.proofs.Common.{◌≡◌, ℕ, zero, suc, ◌+◌, ◌-◌, ◌<◌, ◌≤◌, List, [], ◌∷◌, ◌++◌, length, map, Vec, Global, sym, refl, ap, ◌∙◌, subst, append_assoc, append-nil, arith}
use Rattle.std.proofs.lemmas.List.{length-append, map-append}
use Rattle.std.specs.List.{AllByRecursion}
use Rattle.never_heap.specs.declared.Command.{Command}
use Rattle.rand_pcg.specs.Lcg.{Lcg}
use Rattle.trace_text.proofs.WholeLaws.{all_snoc}
use Rattle.rtheap_core.specs.Generated.{drawn, trace_from, traces_from}

-- ---- a list that grows by one

pub counted_more : {A : Type 0} (old new : List A) (x : A) (n : ℕ) → new ≡ old ++ x ∷ []
    → length old ≡ n → length new ≡ n + 1
counted_more old new x n pushed count =
    ap length pushed ∙ length-append old (x ∷ []) ∙ ap (λ (k : ℕ). k + 1) count

pub all_more : {A : Type 0} (P : A → Type 0) (old new : List A) (x : A) → new ≡ old ++ x ∷ []
    → AllByRecursion P old → P x → AllByRecursion P new
all_more P old new x pushed all one =
    subst (AllByRecursion P) (sym pushed) (all_snoc P old x all one)

-- what the traces of a pushed list are
pub pushed_items : (old new : List (Vec Command Global)) (v : Vec Command Global)
    → new ≡ old ++ v ∷ []
    → map (λ (t : Vec Command Global). t.items) new
    ≡ map (λ (t : Vec Command Global). t.items) old ++ v.items ∷ []
pushed_items old new v pushed =
    ap (map (λ (t : Vec Command Global). t.items)) pushed
    ∙ map-append (λ (t : Vec Command Global). t.items) old (v ∷ [])

-- ---- a trace

one_more : (m : ℕ) (g h : Lcg) (k : Command) → k ≡ (drawn g).0 → h ≡ (drawn g).1
    → (trace_from (suc m) g).0 ≡ k ∷ (trace_from m h).0
unfolding trace_from
one_more m g h k made after = λ i. sym made i ∷ (trace_from m (sym after i)).0

one_more_words : (m : ℕ) (g h : Lcg) → h ≡ (drawn g).1
    → (trace_from m h).1 ≡ (trace_from (suc m) g).1
unfolding trace_from
one_more_words m g h after = ap (λ (s : Lcg). (trace_from m s).1) after

no_more : (m : ℕ) (g : Lcg) → m ≡ 0 → (trace_from m g).0 ≡ []
unfolding trace_from
no_more zero g none = refl
no_more (suc m) g none = absurd (omega arith)

no_more_words : (m : ℕ) (g : Lcg) → m ≡ 0 → (trace_from m g).1 ≡ g
unfolding trace_from
no_more_words zero g none = refl
no_more_words (suc m) g none = absurd (omega arith)

-- with i of n commands made, and the generator at g, what is made and what is left are all
pub record IsPart (made : List Command) (i n : ℕ) (g first : Lcg) : Type 0 where
  pub commands : made ++ (trace_from (n - i) g).0 ≡ (trace_from n first).0
  pub words : (trace_from (n - i) g).1 ≡ (trace_from n first).1

pub one_drawn : (made more : List Command) (i n : ℕ) (g h first : Lcg) (k : Command) → i < n
    → k ≡ (drawn g).0 → h ≡ (drawn g).1 → more ≡ made ++ k ∷ []
    → IsPart made i n g first → IsPart more (i + 1) n h first
one_drawn made more i n g h first k below is after pushed part =
    let m : ℕ = n - (i + 1) in
    let left : n - i ≡ suc m = omega arith in
    let step : (trace_from (n - i) g).0 ≡ k ∷ (trace_from m h).0 =
    ap (λ (n : ℕ). (trace_from n g).0) left ∙ one_more m g h k is after in
    record {
      commands = ap (λ (ks : List Command). ks ++ (trace_from m h).0) pushed
          ∙ append_assoc made (k ∷ []) (trace_from m h).0
          ∙ ap (λ (ks : List Command). made ++ ks) (sym step) ∙ part.commands;
      words = one_more_words m g h after ∙ sym (ap (λ (n : ℕ). (trace_from n g).1) left)
          ∙ part.words;
    }

pub all_drawn : (made : List Command) (i n : ℕ) (g first : Lcg) → n ≤ i
    → IsPart made i n g first → made ≡ (trace_from n first).0
all_drawn made i n g first end part =
    sym (append-nil made)
    ∙ ap (λ (ks : List Command). made ++ ks) (sym (no_more (n - i) g (omega arith)))
    ∙ part.commands

pub words_after : (made : List Command) (i n : ℕ) (g first : Lcg) → n ≤ i
    → IsPart made i n g first → g ≡ (trace_from n first).1
words_after made i n g first end part = sym (no_more_words (n - i) g (omega arith)) ∙ part.words

-- ---- traces, in the same way

one_trace : (m lines : ℕ) (g h : Lcg) (k : List Command)
    → k ≡ (trace_from lines g).0 → h ≡ (trace_from lines g).1
    → traces_from (suc m) lines g ≡ k ∷ traces_from m lines h
unfolding traces_from
one_trace m lines g h k made after = λ i. sym made i ∷ traces_from m lines (sym after i)

no_trace : (m lines : ℕ) (g : Lcg) → m ≡ 0 → traces_from m lines g ≡ []
unfolding traces_from
no_trace zero lines g none = refl
no_trace (suc m) lines g none = absurd (omega arith)

pub one_traced : (made more : List (List Command)) (i n lines : ℕ) (g h : Lcg)
    (k : List Command) (all : List (List Command)) → i < n
    → k ≡ (trace_from lines g).0 → h ≡ (trace_from lines g).1 → more ≡ made ++ k ∷ []
    → made ++ traces_from (n - i) lines g ≡ all
    → more ++ traces_from (n - (i + 1)) lines h ≡ all
one_traced made more i n lines g h k all below is after pushed was =
    let m : ℕ = n - (i + 1) in
    let left : n - i ≡ suc m = omega arith in
    ap (λ (ks : List (List Command)). ks ++ traces_from m lines h) pushed
    ∙ append_assoc made (k ∷ []) (traces_from m lines h)
    ∙ ap (λ (ks : List (List Command)). made ++ ks)
    (sym (ap (λ (n : ℕ). traces_from n lines g) left ∙ one_trace m lines g h k is after)) ∙ was

pub all_traced : (made : List (List Command)) (i n lines : ℕ) (g : Lcg)
    (all : List (List Command)) → n ≤ i
    → made ++ traces_from (n - i) lines g ≡ all → made ≡ all
all_traced made i n lines g all end was =
    sym (append-nil made)
    ∙ ap (λ (ks : List (List Command)). made ++ ks) (sym (no_trace (n - i) lines g (omega arith)))
    ∙ was
