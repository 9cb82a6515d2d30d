-- Names, kept values, and their words.
use Rattle.std.proofs.Common.{◌≡◌, ℕ, ◌<◌, true, false, refl, sym, ap, ◌∙◌, subst, arith, eq-eqb}
use Rattle.std.proofs.lemmas.Bool.{eqb-true}
use Rattle.block_store.specs.declared.Width.{Width}
use Rattle.block_store.specs.declared.Name.{Name}
use Rattle.block_store.specs.declared.Value.{Value}
use Rattle.block_store.specs.declared.Value.TheVariants.{Nil, Int, Ref}
use Rattle.block_store.proofs.Lemmas.{one_wide}
use Rattle.never_heap.specs.Graphs.{Object, same_name}
use Rattle.never_heap.proofs.Lemmas.{one_name, same_from, same_itself}
use Rattle.never_heap.specs.Steps.{same_value}
use Rattle.heap_invariant.specs.graph_relation.Layouts.{object_blocks}
use Rattle.heap_invariant.specs.graph_relation.Words.{BlockWords, value_word}
use Rattle.heap_invariant.specs.graph_relation.GraphOfWords.{IsValueOf, Written, Numbered}

pub true≢false : (true ≡ false) → ⊥
true≢false e = cc

-- names with one thread and one serial are one
pub name_one : (a b : Name) → a.thread ≡ b.thread → a.serial ≡ b.serial → a ≡ b
name_one a b t s = λ i. record { thread = t i; serial = s i }

pub is_same : (a b : Name) → a ≡ b → same_name a b ≡ true
is_same a b e = subst (λ (c : Name). same_name a c ≡ true) e (same_itself a)

-- a value stays kept while its name does
pub value_stays : (K L : Name → Type 0) (v : Value) → ((a : Name) → K a → L a) → IsValueOf K v
    → IsValueOf L v
value_stays K L Nil keep k = tt
value_stays K L (Int n) keep k = k
value_stays K L (Ref a) keep k = keep a k

-- and has the same word while its name has the same first block
pub word_stays : (K : Name → Type 0) (head other : Name → ℕ) (v : Value)
    → ((a : Name) → K a → other a ≡ head a) → IsValueOf K v
    → value_word other v ≡ value_word head v
word_stays K head other Nil same k = refl
word_stays K head other (Int n) same k = refl
word_stays K head other (Ref a) same k = ap (λ x. value_word (λ b. x) (Ref a)) (same a k)

-- two blocks of kept objects that are one are of one name and one ordinal, since their owner
-- words are one
pub apart : (W : Width) (K : Name → Type 0) (object : Name → Object) (at : Name → ℕ → ℕ)
    (w : BlockWords) → Numbered W K object → Written W K object at w
    → (a b : Name) (o p : ℕ) → K a → K b → o < object_blocks W (object a)
    → p < object_blocks W (object b) → at a o ≡ at b p → (same_name a b ≡ true) × (o ≡ p)
apart W K object at w numbered written a b o p ka kb ol pl e =
    let one = one_wide a.thread a.serial o b.thread b.serial p
    (numbered.threads a ka) (omega (arith, numbered.ordinals a ka))
    (numbered.threads b kb) (omega (arith, numbered.ordinals b kb))
    (sym (written.blocks a o ka ol).owned ∙ ap w.owner e ∙ (written.blocks b p kb pl).owned) in
    (same_from a b one.0 one.1, one.2)

-- a value is the same as itself, and two values that are the same are one
pub same_as_itself : (v : Value) → same_value v v ≡ true
same_as_itself Nil = refl
same_as_itself (Int n) = eq-eqb n n refl
same_as_itself (Ref a) = same_itself a

pub values_one : (u v : Value) → same_value u v ≡ true → u ≡ v
values_one Nil Nil h = refl
values_one (Int m) (Int n) h = ap Int (eqb-true m n h)
values_one (Ref a) (Ref b) h = ap Ref (one_name a b h)
values_one _ _ h = absurd (true≢false (sym h))
