-- What a builder's own events make of its build.
use Rattle.std.proofs.Common.{◌≡◌, ℕ, suc, ◌+◌, ◌≤◌, ◌<◌, ◌⊎◌, inl, inr, true, refl, arith, subst, sym, ap, ◌∙◌, eq-eqb, ne_eqb, ◌^◌}
use Rattle.std.proofs.lemmas.Bool.{cases_eq}
use Rattle.block_store.specs.declared.Name.{Name}
use Rattle.block_store.specs.declared.Width.{Width}
use Rattle.block_store.specs.Colours.{is_free, black_word}
use Rattle.block_store.specs.Registers.{registers_end}
use Rattle.block_store.specs.Widths.{payloads}
use Rattle.never_heap.specs.Graphs.{ObjectKind}
use Rattle.heap_invariant.specs.graph_relation.Layouts.{layout_blocks}
use Rattle.heap_invariant.specs.graph_relation.Made.{IsWritten}
use Rattle.heap_invariant.specs.graph_relation.Words.{Agrees, BlockWords, with_payload}
use Rattle.heap_invariant.proofs.graph_relation.Blocks.{other_block}
use Rattle.block_store.specs.Counts.{changed}
use Rattle.block_store.proofs.Lemmas.{black_solid, changed_both}
use Rattle.heap_invariant.specs.name_invariant.Building.{Build, build_blocks, build_owner, build_shape, build_payload, with_owner, with_shape, IsBegun, IsBuild}
use Rattle.heap_invariant.specs.name_invariant.Events.{collected}
use Rattle.heap_invariant.proofs.name_invariant.Colours.{differ, changed_here, changed_else}

-- a write of an owner or a shape at another block
pub other_owner : (W : Width) (w : BlockWords) (x v y : ℕ) → (x ≡ y → ⊥)
    → Agrees W w (with_owner w x v) y
other_owner W w x v y ne = record {
  owners = changed_else w.owner x v y ne;
  shapes = refl;
  payloads = λ j jl. refl;
}

pub other_shape : (W : Width) (w : BlockWords) (x v y : ℕ) → (x ≡ y → ⊥)
    → Agrees W w (with_shape w x v) y
other_shape W w x v y ne = record {
  owners = refl;
  shapes = changed_else w.shape x v y ne;
  payloads = λ j jl. refl;
}

-- nothing is held yet
pub begins : (W : Width) (n m cycle : ℕ) (colour : ℕ → ℕ) (w : BlockWords) (name : Name)
    (kind : ObjectKind) (size : ℕ) → layout_blocks W kind size ≤ 1024 → name.serial < 2 ^ 43
    → name.thread ≤ 16 → IsBuild W n m cycle colour w
    (record {
      name = name;
      kind = kind;
      size = size;
      held = λ o. 0;
      collected = 0;
      left = layout_blocks W kind size;
      step = 0;
    })
begins W n m cycle colour w name kind size few serial thread = record {
  behind = λ o ol. absurd (omega arith);
  within = λ o ol. absurd (omega arith);
  free = λ o ol lo. absurd (omega arith);
  black = λ o lo hi. absurd (omega arith);
  written = λ o lo hi. absurd (omega arith);
  begun = λ o e. record {
    owned = λ l. absurd (omega arith);
    shaped = λ l. absurd (omega arith);
    links = λ j jl l. absurd (omega arith);
  };
  some = omega arith;
  few_left = omega arith;
  phase = inr (refl, refl);
  few_blocks = few;
  thread = thread;
  serial = serial;
}

module _ (W : Width) (n m cycle : ℕ) (colour : ℕ → ℕ) (w : BlockWords) (b : Build)
    (k : IsBuild W n m cycle colour w b) where
  -- A Free block is held for the next ordinal.
  pub collects : (x : ℕ) → b.collected < build_blocks W b → registers_end W n < x → x ≤ m
      → is_free (colour x) ≡ true → IsBuild W n m cycle colour w (collected b x)
  collects x more behind within free =
      let early : (b.left ≡ build_blocks W b) × (b.step ≡ 0) = before k.phase in
      record {
        behind = λ o ol. changed_both (λ o y. registers_end W n < y) b.held b.collected x o
            (λ _. behind) (λ ne. k.behind o (omega arith));
        within = λ o ol. changed_both (λ o y. y ≤ m) b.held b.collected x o (λ _. within)
            (λ ne. k.within o (omega arith));
        free = λ o ol lo. changed_both (λ o y. is_free (colour y) ≡ true) b.held b.collected x o
            (λ _. free) (λ ne. k.free o (omega arith) lo);
        black = λ o lo hi. absurd (omega (arith, early.0));
        written = λ o lo hi. absurd (omega (arith, early.0));
        begun = λ o e. record {
          owned = λ l. absurd (omega (arith, early.1));
          shaped = λ l. absurd (omega (arith, early.1));
          links = λ j jl l. absurd (omega (arith, early.1));
        };
        some = omega arith;
        few_left = k.few_left;
        phase = inr early;
        few_blocks = k.few_blocks;
        thread = k.thread;
        serial = k.serial;
      }
    where
      before : (b.collected ≡ build_blocks W b) ⊎ ((b.left ≡ build_blocks W b) × (b.step ≡ 0))
          → (b.left ≡ build_blocks W b) × (b.step ≡ 0)
      before (inl e) = absurd (omega arith)
      before (inr e) = e

  module _ (o : ℕ) (next : suc o ≡ b.left) (full : b.collected ≡ build_blocks W b) where
    -- the ordinal in hand is Free, so it is none of those that are written
    pub in_hand : is_free (colour (b.held o)) ≡ true
    in_hand = k.free o (omega (arith, k.few_left)) (omega arith)

    apart : (p : ℕ) → b.left ≤ p → p < build_blocks W b → b.held o ≡ b.held p → ⊥
    apart p lo hi e = differ _ (subst (λ z. is_free (colour z) ≡ true) e in_hand)
        (black_solid cycle _ (k.black p lo hi))

    other_written : (u : BlockWords) (p : ℕ) → b.left ≤ p → p < build_blocks W b
        → Agrees W w u (b.held p) → IsWritten W u b.name b.kind b.size b.held p
    other_written u p lo hi a = (let q = k.written p lo hi in
        record {
          owned = a.owners ∙ q.owned;
          shaped = a.shapes ∙ q.shaped;
          links = λ j jl. a.payloads j jl ∙ q.links j jl;
        })

    -- One more word of it is written.
    one_more : (u : BlockWords) (words : ℕ) → ((y : ℕ) → (b.held o ≡ y → ⊥) → Agrees W w u y)
        → ((p : ℕ) → suc p ≡ b.left → IsBegun W u (record b { step = words }) p)
        → IsBuild W n m cycle colour u (record b { step = words })
    one_more u words same begun = record {
      behind = k.behind;
      within = k.within;
      free = k.free;
      black = k.black;
      some = k.some;
      few_left = k.few_left;
      few_blocks = k.few_blocks;
      thread = k.thread;
      serial = k.serial;
      phase = inl full;
      written = λ p lo hi. other_written u p lo hi (same (b.held p) (apart p lo hi));
      begun = begun;
    }

    pub writes_owner : b.step ≡ 0 → IsBuild W n m cycle colour
        (with_owner w (b.held o) (build_owner b o)) (record b { step = 1 })
    writes_owner s = one_more _ 1 (λ y ne. other_owner W w (b.held o) (build_owner b o) y ne)
        (λ p f. (let op : o ≡ p = omega arith in record {
          owned = λ _. changed_here w.owner (b.held o) (build_owner b o) (b.held p) (ap b.held op)
              ∙ ap (build_owner b) op;
          shaped = λ l. absurd (omega arith);
          links = λ j jl l. absurd (omega arith);
        }))

    pub writes_shape : b.step ≡ 1 → IsBuild W n m cycle colour
        (with_shape w (b.held o) (build_shape b)) (record b { step = 2 })
    writes_shape s = one_more _ 2 (λ y ne. other_shape W w (b.held o) (build_shape b) y ne)
        (λ p f. (let op : o ≡ p = omega arith in record {
          owned = λ _. (k.begun p f).owned (omega arith);
          shaped = λ _. changed_here w.shape (b.held o) (build_shape b) (b.held p) (ap b.held op);
          links = λ j jl l. absurd (omega arith);
        }))

    pub writes_payload : (i : ℕ) → b.step ≡ i + 2
        → IsBuild W n m cycle colour (with_payload w (b.held o) i (build_payload W b o i))
        (record b { step = i + 3 })
    writes_payload i s = one_more _ (i + 3)
        (λ y ne. other_block W w (b.held o) i (build_payload W b o i) y ne)
        (λ p f. (let op : o ≡ p = omega arith in record {
          owned = λ _. (k.begun p f).owned (omega arith);
          shaped = λ _. (k.begun p f).shaped (omega arith);
          links = λ j jl l. elim (cases_eq i j) [
            | inl ij ↦ rw (eq-eqb (b.held o) (b.held p) (ap b.held op), eq-eqb i j ij)
                (ap (λ z. build_payload W b z i) op ∙ ap (λ z. build_payload W b p z) ij)
            | inr nij ↦ rw (eq-eqb (b.held o) (b.held p) (ap b.held op), ne_eqb i j nij)
                ((k.begun p f).links j jl (omega arith))
          ];
        }))

    -- Its colour is written. No other ordinal is at its block.
    pub writes_colour : b.step ≡ payloads W + 2 → ((p : ℕ) → p < o → b.held o ≡ b.held p → ⊥)
        → IsBuild W n m cycle (changed colour (b.held o) (black_word cycle)) w
        (record b { left = o; step = 0 })
    writes_colour s once = record {
      behind = k.behind;
      within = k.within;
      some = k.some;
      few_left = omega (arith, k.few_left);
      few_blocks = k.few_blocks;
      thread = k.thread;
      serial = k.serial;
      phase = inl full;
      free = λ p pl lo. subst (λ z. is_free z ≡ true)
          (sym (changed_else colour (b.held o) (black_word cycle) (b.held p) (once p lo)))
          (k.free p pl (omega arith));
      black = λ p lo hi. changed_both (λ y v. v ≡ black_word cycle) colour (b.held o)
          (black_word cycle) (b.held p) (λ _. refl)
          (λ ne. k.black p (elim (cases_eq o p)
          [ inl z ↦ absurd (ne (ap b.held z)) | inr z ↦ omega arith ]) hi);
      written = λ p lo hi. elim (cases_eq o p) [
        | inl z ↦
            let f : suc p ≡ b.left = omega arith in
            let q = k.begun p f in
            record {
              owned = q.owned (omega arith);
              shaped = q.shaped (omega arith);
              links = λ j jl. q.links j jl (omega arith);
            }
        | inr z ↦ k.written p (omega arith) hi
      ];
      begun = λ p e. record {
        owned = λ l. absurd (omega arith);
        shaped = λ l. absurd (omega arith);
        links = λ j jl l. absurd (omega arith);
      };
    }
