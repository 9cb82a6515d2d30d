-- Events that are made one after the other, and counted.
use Rattle.std.proofs.Common.{◌≡◌, ℕ, ◌+◌, ◌<◌, ◌≤◌, true, false, List, [], ◌∷◌, ◌++◌, length, length-append, refl, subst, sym, ap, ◌∙◌, arith}
use Rattle.heap_machine.specs.declared.op.Op.{Op}
use Rattle.heap_machine.specs.Memories.{Acts, ActsOnce}
use Rattle.heap_system.specs.ThreadMemories.{HasRunIn, IsGoing, MakesTheNextEvent, Ran, TellsLast, has_waited}
use Rattle.heap_system.specs.declared.Turn.{Turn}
use Rattle.heap_system.specs.declared.Turn.TheVariants.{Went, Waited, Done}
use Rattle.heap_system.specs.Locals.{HasGot, LocalState, is_done, local_got, op_wanted, part_step, turn_of}
use Rattle.shared_heap.specs.Turns.{HasDrivenIn, LastWaited}

-- one event of a memory that represents the thread
module _ {M S : Type 0} {may : M → S → Op → Type 0} {acts : Acts M S} (stands : M → S → LocalState → Type 0)
    (m : M) (s : S) (l : LocalState) (n : M) (k : LocalState) {turn : Turn} (leads : MakesTheNextEvent may acts stands m s l)
  where
    pub stands_then : ActsOnce acts m s (op_wanted l) n (λ w. HasGot l w k turn) → stands n s k
    stands_then by = subst (λ x. stands n s x) (sym by.2.0) (leads.on by.0 n by.1)

    pub one_run : IsGoing l → ActsOnce acts m s (op_wanted l) n (λ w. HasGot l w k turn) → HasRunIn 1 acts s m l n k turn
    one_run going by = (
      record {
        words = by.0 ∷ [];
        ran = (n, by.1, leads.reads by.0 n by.1, (refl, sym by.2.0), going);
        told = by.2.1;
      },
      omega arith,
      omega arith,
    )

-- so many events were made
pub record HasMade {M S : Type 0} (made : ℕ) (acts : Acts M S) (s : S) (m : M) (l : LocalState) (n : M) (k : LocalState) : Type 0 where
  pub words : List ℕ
  pub ran : Ran acts s m l words n k
  pub count : length words ≡ made

pub made_none : {M S : Type 0} (acts : Acts M S) (s : S) (m : M) (l : LocalState) → HasMade 0 acts s m l m l
made_none acts s m l = record { words = []; ran = (refl, refl); count = refl }

module _ {M S : Type 0} (acts : Acts M S) (s : S) where
  -- one more
  one_more : (m : M) (l : LocalState) (ws : List ℕ) (n : M) (k : LocalState) (w : ℕ) (o : M) (j : LocalState)
      → Ran acts s m l ws n k → Ran acts s n k (w ∷ []) o j → Ran acts s m l (ws ++ w ∷ []) o j
  one_more m l [] n k w o j ran next = subst (λ x. Ran acts s x l (w ∷ []) o j) (sym ran.0) (subst (λ y. Ran acts s n y (w ∷ []) o j) (sym ran.1) next)
  one_more m l (v ∷ ws) n k w o j ran next = (ran.0, ran.1, ran.2, one_more ran.0 (local_got l v) ws n k w o j ran.3 next, ran.4)

  last_waits : (m : M) (l : LocalState) (ws : List ℕ) (n : M) (k : LocalState) (w : ℕ) → Ran acts s m l ws n k → turn_of (part_step k.config k.part w) ≡ Waited → LastWaited l (ws ++ w ∷ [])
  last_waits m l [] n k w ran waits = subst (λ (x : LocalState). turn_of (part_step x.config x.part w) ≡ Waited) (sym ran.1) waits
  last_waits m l (v ∷ []) n k w ran waits = last_waits ran.0 (local_got l v) [] n k w ran.3 waits
  last_waits m l (v ∷ u ∷ ws) n k w ran waits = last_waits ran.0 (local_got l v) (u ∷ ws) n k w ran.3 waits

  module _ (m : M) (l : LocalState) (n : M) (k : LocalState) (made : ℕ) (is : HasMade made acts s m l n k) where
    -- the thread is done
    pub driven_done : (most : ℕ) → made ≤ most → is_done k ≡ true → HasDrivenIn most acts s m l n k
    driven_done most few done = record {
      words = is.words;
      ran = is.ran;
      few = omega (arith, few, is.count);
      far = λ going. (let b : true ≡ false = sym done ∙ going in cc);
    }

    -- all are made
    pub driven_all : (most : ℕ) → made ≡ most → HasDrivenIn most acts s m l n k
    driven_all most all = record {
      words = is.words;
      ran = is.ran;
      few = omega (arith, all, is.count);
      far = λ going less. absurd (omega (arith, less, all, is.count));
    }

    module _ (o : M) (j : LocalState) (turn : Turn) (one : HasRunIn 1 acts s n k o j turn) where
      word : (ws : List ℕ) → 0 < length ws → length ws ≤ 1 → (w : ℕ) × (ws ≡ w ∷ [])
      word [] some few = absurd (omega (arith, some))
      word (w ∷ []) some few = (w, refl)
      word (w ∷ v ∷ ws) some few = absurd (omega (arith, few))

      by : (w : ℕ) × (one.0.words ≡ w ∷ [])
      by = word one.0.words one.1 one.2

      ran : Ran acts s n k (by.0 ∷ []) o j
      ran = subst (λ ws. Ran acts s n k ws o j) by.1 one.0.ran

      told : turn ≡ turn_of (part_step k.config k.part by.0)
      told = subst (λ ws. TellsLast k ws turn) by.1 one.0.told

      more : length (is.words ++ by.0 ∷ []) ≡ made + 1
      more = length-append is.words (by.0 ∷ []) ∙ ap (λ x. x + 1) is.count

      pub made_more : HasMade (made + 1) acts s m l o j
      made_more = record {
        words = is.words ++ by.0 ∷ [];
        ran = one_more m l is.words n k by.0 o j is.ran ran;
        count = more;
      }

      waits_is : (t : Turn) → has_waited t ≡ true → t ≡ Waited
      waits_is Waited e = refl
      waits_is Went e = absurd (let b : false ≡ true = e in cc)
      waits_is Done e = absurd (let b : false ≡ true = e in cc)

      pub driven_waits : (most : ℕ) → made < most → has_waited turn ≡ true → HasDrivenIn most acts s m l o j
      driven_waits most few waits = record {
        words = is.words ++ by.0 ∷ [];
        ran = one_more m l is.words n k by.0 o j is.ran ran;
        few = omega (arith, few, more);
        far = λ going less. last_waits m l is.words n k by.0 is.ran (sym told ∙ waits_is turn waits);
      }
