-- The opening is kept.
use Rattle.std.proofs.Common.{◌≡◌, ℕ, ◌+◌, ◌≤◌, ◌<◌, ◌⊎◌, inl, inr, true, false, refl, arith, subst, sym, ap, ◌∙◌}
use Rattle.std.proofs.lemmas.Bool.{cases_lt, cases_eq}
use Rattle.block_store.specs.declared.Config.{Config}
use Rattle.block_store.specs.declared.Name.{Name}
use Rattle.block_store.specs.declared.Value.TheVariants.{Ref}
use Rattle.block_store.specs.declared.Width.{Width}
use Rattle.block_store.specs.Colours.{is_free, white_word}
use Rattle.block_store.specs.Configs.{IsInBounds}
use Rattle.block_store.specs.Registers.{root_block, registers_end, register_thread, register_ordinal}
use Rattle.block_store.proofs.Lemmas.{ordinal_low, thread_low, white_solid}
use Rattle.block_store.proofs.Registers.{block_is}
use Rattle.array_trees.specs.InitialHeaps.{opening_blocks}
use Rattle.never_heap.specs.Graphs.{start_graph, shared_name, has_name}
use Rattle.never_heap.specs.Reach.{reachable}
use Rattle.never_heap.proofs.Lemmas.{name_of_start, reachable_closed, reachable_within, register_of_start, sound_start}
use Rattle.heap_invariant.specs.graph_relation.GraphOfWords.{Shows, every_name, none_pending}
use Rattle.heap_invariant.specs.graph_relation.InitialHeaps.{opening_at, opening_words}
use Rattle.heap_invariant.proofs.graph_relation.Names.{name_one}
use Rattle.heap_invariant.proofs.graph_relation.OpeningWords.{opening_shows}
use Rattle.heap_invariant.proofs.graph_relation.Stores.{later_last, same_names}
use Rattle.heap_invariant.specs.name_invariant.Colouring.{IsDark, IsColoured, IsRegisterBlock}
use Rattle.heap_invariant.specs.name_invariant.Invariant.{Invariant}
use Rattle.heap_invariant.specs.name_invariant.InitialHeaps.{OpeningColours, opening_kept}
use Rattle.heap_invariant.proofs.name_invariant.Colours.{differ, dark_solid, dark_not_white}
use Rattle.heap_invariant.proofs.name_invariant.WordTargets.{root_apart, root_in, behind_roots}

module _ (c : Config) (inside : IsInBounds c) (room : opening_blocks c ≤ c.blocks) (colour : ℕ → ℕ)
    (k : OpeningColours c colour) where
  abbrev W : Width
  W = c.width

  abbrev n : ℕ
  n = c.threads

  -- the start graph reaches all its names
  reached_name : (a : Name) → reachable (start_graph c) a ≡ true → has_name (start_graph c) a ≡ true
  reached_name a h = reachable_within (start_graph c) (has_name (start_graph c)) a (sound_start c) h

  name_reached : (a : Name) → has_name (start_graph c) a ≡ true → reachable (start_graph c) a ≡ true
  name_reached a h =
      let p = name_of_start c a h in
      let is : shared_name n ≡ a = name_one (shared_name n) a (sym p.0) (sym p.1) in
      (reachable_closed (start_graph c)).registers 0 0 a
      (register_of_start c 0 0 (omega (arith, inside.some_thread)) (omega arith) ∙ ap Ref is)

  shown_start : Shows W n c.blocks (λ a. reachable (start_graph c) a ≡ true) (start_graph c)
      (opening_at W n) (opening_words c) none_pending
  shown_start = same_names W n c.blocks (every_name (start_graph c)) (start_graph c)
      (opening_at W n) (opening_words c) none_pending
      (later_last W n (opening_blocks c) (every_name (start_graph c)) (start_graph c)
      (opening_at W n) (opening_words c) none_pending (opening_shows c inside) c.blocks room)
      (λ a. reachable (start_graph c) a ≡ true) reached_name name_reached

  -- a root, or a white block
  data At : ℕ → Type 0 where
    root : (t : ℕ) → t < n → At (root_block W t)
    white : (x : ℕ) → colour x ≡ white_word 1 → At x

  in_array : (x : ℕ) → IsRegisterBlock W n x → At x
  in_array x r =
      let is : x ≡ root_block W (register_thread W x) + register_ordinal W x = block_is W x r.0 in
      let tn = thread_low W n x r.0 r.1 in
      elim (cases_eq (register_ordinal W x) 0) [
        | inl z ↦ let e : root_block W (register_thread W x) ≡ x = omega arith in subst At e
            (root (register_thread W x) tn)
        | inr nz ↦ white x (k.arrays x r.0 (omega (arith, r.1))
            (λ u un e. root_apart W (register_thread W x) u (register_ordinal W x) (omega arith)
            (ordinal_low W x) (sym is ∙ e)))
      ]

  in_shared : (x : ℕ) → registers_end W n < x → x ≤ opening_blocks c → colour x ≡ white_word 1
  in_shared x behind within = k.arrays x (omega arith) within (behind_roots W n x behind)

  what : (x : ℕ) → (is_free (colour x) ≡ true) ⊎ At x
  what x = elim (cases_eq x 0) [
    | inl z ↦ inl (ap (λ y. is_free (colour y)) z ∙ k.none)
    | inr some ↦ elim (cases_lt (opening_blocks c) x) [
      | inl behind ↦ inl (k.others x behind)
      | inr within ↦ elim (cases_lt (registers_end W n) x) [
        | inl shared ↦ inr (white x (in_shared x shared (omega arith)))
        | inr array ↦ inr (in_array x (omega arith, omega arith))
      ]
    ]
  ]

  fits : (x : ℕ) → (is_free (colour x) ≡ true) ⊎ At x → IsColoured 1 (colour x)
  fits x (inl f) = inl f
  fits _ (inr (root t tn)) = inr (inr (inl (k.roots t tn)))
  fits _ (inr (white x w)) = inr (inl w)

  solid : (x : ℕ) → At x → is_free (colour x) ≡ false
  solid _ (root t tn) = dark_solid 1 _ (inl (k.roots t tn))
  solid _ (white x w) = white_solid 1 _ w

  marked : (x : ℕ) → (is_free (colour x) ≡ true) ⊎ At x → IsDark 1 (colour x)
      → IsRegisterBlock W n x
  marked x (inl f) d = absurd (differ _ f (dark_solid 1 _ d))
  marked _ (inr (root t tn)) d = root_in W n t tn
  marked _ (inr (white x w)) d = absurd (dark_not_white 1 _ d w)

  pub opening_is_kept : Invariant c (opening_kept c colour)
  opening_is_kept = record {
    ordered = record {
      legal = tt;
      replayed = refl;
      started = refl;
      some = omega arith;
      since = λ a h. inl h;
    };
    follows = record {
      shows = shown_start;
      loads = λ t tn. record { object = tt; expected = tt; value = tt };
    };
    older = λ t r tn rl pending. absurd (differ false pending refl);
    known = λ a h. h;
    named = reached_name;
    painted = record {
      fits = λ x. fits x (what x);
      arrays = λ x r. solid x (in_array x r);
      solid = λ a o h ol. (let first = opening_shows c inside in
          white_solid 1 _ (in_shared (opening_at W n a o)
          (first.placed.behind a o (reached_name a h) ol)
          (first.placed.within a o (reached_name a h) ol)));
      marked = λ x d. inl (inl (marked x (what x) d));
    };
    builds = λ t tn. tt;
    titles = λ t tn. tt;
    scans = λ t tn some. absurd (some refl);
    marking = λ _. record { all = λ a h. h; roots = λ t tn. inl (k.roots t tn) };
    sweeping = λ e. absurd (differ false e refl);
  }
