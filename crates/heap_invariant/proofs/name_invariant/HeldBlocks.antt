-- Which blocks builders hold, and what other writes leave of a build.
use Rattle.std.proofs.Common.{◌≡◌, ◌≢◌, ℕ, suc, ◌≤◌, ◌<◌, ◌⊎◌, inl, inr, true, false, refl, arith, subst, sym, ap, ◌∙◌, Option, Some, None, IfSome}
use Rattle.std.proofs.lemmas.Bool.{cases_lt}
use Rattle.block_store.specs.declared.Width.{Width}
use Rattle.block_store.specs.Colours.{is_free, black_word}
use Rattle.block_store.specs.Registers.{registers_end}
use Rattle.heap_invariant.specs.graph_relation.Words.{Agrees, BlockWords}
use Rattle.block_store.specs.Counts.{changed}
use Rattle.heap_invariant.specs.name_invariant.Building.{Build, build_blocks, IsBuild, NotHeld}
use Rattle.heap_invariant.proofs.name_invariant.Colours.{differ, changed_else}

-- what is said of what a thread builds
pub some_is : {A : Type 0} (P : A → Type 0) (o : Option A) (b : A) → o ≡ Some b → IfSome o P → P b
some_is P o b e k = subst (λ x. IfSome x P) e k

pub some_case : {A : Type 0} (P : A → Type 0) (o : Option A) → ((b : A) → o ≡ Some b → P b)
    → IfSome o P
some_case P None f = tt
some_case P (Some b) f = f b refl

pub some_more : {A : Type 0} (P Q : A → Type 0) (o : Option A) → ((b : A) → o ≡ Some b → P b → Q b)
    → IfSome o P → IfSome o Q
some_more P Q None f k = tt
some_more P Q (Some b) f k = f b refl k

module _ (W : Width) (n m cycle : ℕ) (colour : ℕ → ℕ) (w : BlockWords) (b : Build)
    (k : IsBuild W n m cycle colour w b) where
  -- the ordinals that are written, or begun, are held
  pub held_written : (o : ℕ) → b.left ≤ o → o < build_blocks W b → o < b.collected
  held_written o lo hi = ended k.phase
    where
      ended : (b.collected ≡ build_blocks W b) ⊎ ((b.left ≡ build_blocks W b) × (b.step ≡ 0))
          → o < b.collected
      ended (inl e) = omega arith
      ended (inr e) = absurd (omega (arith, e.0))

  pub held_begun : (o : ℕ) → suc o ≡ b.left → b.step ≢ 0 → o < b.collected
  held_begun o e some = ended k.phase
    where
      ended : (b.collected ≡ build_blocks W b) ⊎ ((b.left ≡ build_blocks W b) × (b.step ≡ 0))
          → o < b.collected
      ended (inl f) = omega (arith, k.few_left)
      ended (inr f) = absurd (some f.1)

  -- a held block is Free, or is written and black
  pub held_is : (o : ℕ) → o < b.collected → (is_free (colour (b.held o)) ≡ true)
      ⊎ ((b.left ≤ o) × (o < build_blocks W b) × (colour (b.held o) ≡ black_word cycle))
  held_is o ol = elim (cases_lt o b.left) [
    | inl lo ↦ inl (k.free o ol lo)
    | inr hi ↦ inr (hi, omega (arith, k.some), k.black o hi (omega (arith, k.some)))
  ]

  -- a block that is not Free and not black is not held
  pub not_held_colour : (x : ℕ) → is_free (colour x) ≡ false → colour x ≢ black_word cycle
      → NotHeld b x
  not_held_colour x solid not_black o ol e = either (held_is o ol)
    where
      either : (is_free (colour (b.held o)) ≡ true)
          ⊎ ((b.left ≤ o) × (o < build_blocks W b) × (colour (b.held o) ≡ black_word cycle)) → ⊥
      either (inl f) = differ _ (subst (λ z. is_free (colour z) ≡ true) (sym e) f) solid
      either (inr q) = not_black (ap colour e ∙ q.2)

  pub not_held_array : (x : ℕ) → x ≤ registers_end W n → NotHeld b x
  not_held_array x low o ol e = omega (arith, k.behind o ol)

  -- another colour, or other words, at blocks that are not held
  pub build_recoloured : (x v : ℕ) → NotHeld b x → IsBuild W n m cycle (changed colour x v) w b
  build_recoloured x v out = record {
    behind = k.behind;
    within = k.within;
    written = k.written;
    begun = k.begun;
    some = k.some;
    few_left = k.few_left;
    phase = k.phase;
    few_blocks = k.few_blocks;
    thread = k.thread;
    serial = k.serial;
    free = λ o ol lo. subst (λ z. is_free z ≡ true)
        (sym (changed_else colour x v (b.held o) (out o ol))) (k.free o ol lo);
    black = λ o lo hi. changed_else colour x v (b.held o) (out o (held_written o lo hi))
        ∙ k.black o lo hi;
  }

  pub build_rewritten : (u : BlockWords) → ((o : ℕ) → o < b.collected → Agrees W w u (b.held o))
      → IsBuild W n m cycle colour u b
  build_rewritten u same = record {
    behind = k.behind;
    within = k.within;
    free = k.free;
    black = k.black;
    some = k.some;
    few_left = k.few_left;
    phase = k.phase;
    few_blocks = k.few_blocks;
    thread = k.thread;
    serial = k.serial;
    written = λ o lo hi. (let a = same o (held_written o lo hi) in let q = k.written o lo hi in
        record {
          owned = a.owners ∙ q.owned;
          shaped = a.shapes ∙ q.shaped;
          links = λ j jl. a.payloads j jl ∙ q.links j jl;
        });
    begun = λ o e. (let q = k.begun o e in record {
      owned = λ l. (same o (held_begun o e (λ z. omega arith))).owners ∙ q.owned l;
      shaped = λ l. (same o (held_begun o e (λ z. omega arith))).shapes ∙ q.shaped l;
      links = λ j jl l. (same o (held_begun o e (λ z. omega arith))).payloads j jl ∙ q.links j jl l;
    });
  }
