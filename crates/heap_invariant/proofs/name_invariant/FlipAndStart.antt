-- The flip to Sweep, and the start of a cycle.
use Rattle.std.proofs.Common.{◌≡◌, ◌≢◌, ℕ, ◌+◌, ◌≤◌, ◌<◌, ◌⊎◌, inl, inr, true, false, ◌&&◌, eqb, [], ◌∷◌, ◌++◌, length, get_or, refl, arith, subst, sym, ap, ◌∙◌, Some, None, IfSome, eq-eqb, eqb-true}
use Rattle.std.proofs.lemmas.Bool.{cases_lt, and_parts, and_from}
use Rattle.std.proofs.lemmas.List.{get_or_past}
use Rattle.block_store.specs.declared.Config.{Config}
use Rattle.block_store.specs.declared.Name.{Name}
use Rattle.block_store.specs.declared.TheConstants.{REGISTERS}
use Rattle.block_store.specs.declared.Value.TheVariants.{Nil, Ref}
use Rattle.block_store.specs.Colours.{is_free, is_grey, black_word, white_word}
use Rattle.block_store.specs.Registers.{registers_end}
use Rattle.block_store.proofs.Lemmas.{black-next, white-next}
use Rattle.never_heap.specs.Graphs.{Graph, Mutator, start_graph, no_mutator, mutator_at, object_of, field_of, register_of}
use Rattle.never_heap.specs.Histories.{Started}
use Rattle.never_heap.specs.Cycles.{graph_at}
use Rattle.never_heap.specs.Reach.{reachable}
use Rattle.never_heap.proofs.Lemmas.{graph_at_next, legal_history_more, reachable_closed, reachable_least, replay_more, starts_append}
use Rattle.heap_invariant.specs.graph_relation.GraphOfWords.{IsValueOf, Closed}
use Rattle.heap_invariant.specs.graph_relation.Events.{Loading, is_pending, pending_registers}
use Rattle.heap_invariant.proofs.graph_relation.Stores.{fewer_names}
use Rattle.heap_invariant.specs.graph_relation.Words.{BlockWords}
use Rattle.heap_invariant.specs.name_invariant.Building.{IsBuild, IsBuilt}
use Rattle.heap_invariant.specs.name_invariant.Colouring.{IsDark, IsColoured, IsTricolour, Belongs}
use Rattle.heap_invariant.specs.name_invariant.States.{KeptState, sizes, Kept, IsKnownBlock, IsKeptBlock}
use Rattle.heap_invariant.specs.name_invariant.Events.{apply, IsAlone}
use Rattle.heap_invariant.specs.name_invariant.Events.KeptEvent.{Flip, Start}
use Rattle.heap_invariant.specs.name_invariant.Invariant.{Invariant}
use Rattle.heap_invariant.proofs.name_invariant.Colours.{differ}
use Rattle.heap_invariant.proofs.name_invariant.WordTargets.{root_in}
use Rattle.heap_invariant.proofs.name_invariant.KeptStates.{shown, known_is_kept}
use Rattle.heap_invariant.proofs.name_invariant.BlackAtFlip.{value_kept, flip_closed, flip_colours}

-- a reference is in a register of a thread that there is
pub register_there : (n : ℕ) (g : Graph) → length g.mutators ≡ n
    → ((t : ℕ) → t < n → length (mutator_at g t).registers ≡ REGISTERS) → (t r : ℕ) (a : Name)
    → register_of g t r ≡ Ref a → (t < n) × (r < REGISTERS)
register_there n g threads sixteen t r a e = elim (cases_lt t (length g.mutators)) [
  | inr past ↦ let none : register_of g t r ≡ Nil = ap (λ (m : Mutator). get_or m.registers r Nil)
      (get_or_past g.mutators t no_mutator past) in absurd cc
  | inl here ↦
      let tn : t < n = subst (λ k. t < k) threads here in
      elim (cases_lt r (length (mutator_at g t).registers)) [
        | inl rl ↦ (tn, subst (λ k. r < k) (sixteen t tn) rl)
        | inr past ↦ let none : register_of g t r ≡ Nil = get_or_past
            (mutator_at g t).registers r Nil past in absurd cc
      ]
]

module _ (c : Config) (s : KeptState) (k : Invariant c s) where
  abbrev g : Graph
  g = s.seen.graph

  abbrev w : BlockWords
  w = s.seen.words

  -- what the graph reaches is kept
  pub reached_kept : (a : Name) → reachable g a ≡ true → Kept s a
  reached_kept a h = reachable_least g (Kept s)
      (λ t r b e. (let there = register_there c.threads g (shown c s k).sized.threads
      (shown c s k).sized.sixteen t r b e in
      subst (IsValueOf (Kept s)) e ((shown c s k).closed.registers t r there.0 there.1)))
      (λ b d i kb e. subst (IsValueOf (Kept s)) e ((shown c s k).closed.fields b i kb)) a h

  module _ (alone : IsAlone c s) where
    no_late : (t r : ℕ) → t < c.threads → r < REGISTERS → pending_registers s.seen.loads t r ≡ false
    no_late t r tn rl = ap (λ (l : Loading). is_pending l.value r) (alone.loads t tn)

    no_built : (x : ℕ) → IsBuilt c.width c.threads s.builds x → ⊥
    no_built x b = let z : None ≡ Some b.build = sym (alone.builds b.thread b.there)
        ∙ b.builds_it in cc

    pub flips : s.sweep ≡ false → ((x : ℕ) → is_grey (s.colour x) ≡ false)
        → IsTricolour c.width s.cycle s.colour w.payload → Invariant c (apply c s Flip)
    flips mark none tricolour = record {
      ordered = k.ordered;
      older = λ t r tn rl is. absurd (differ _ is (no_late t r tn rl));
      follows = record {
        shows = fewer_names c.width c.threads c.blocks (Kept s) g s.at w
            (pending_registers s.seen.loads) (shown c s k) Fewer
            (λ a la. (down a la).0) closed no_late;
        loads = k.follows.loads;
      };
      known = λ a la. k.known a (down a la).0;
      named = k.named;
      painted = record {
        fits = k.painted.fits;
        arrays = k.painted.arrays;
        solid = λ a o la ol. k.painted.solid a o (down a la).0 ol;
        marked = k.painted.marked;
      };
      builds = k.builds;
      titles = k.titles;
      scans = k.scans;
      marking = λ e. absurd (differ true refl e);
      sweeping = λ _. flip_colours c.width c.threads c.blocks s.cycle (Kept s) Fewer g s.at w
          (pending_registers s.seen.loads) s.colour
          (shown c s k) k.painted.fits solid marked no_late none tricolour
          (k.marking mark).roots down up;
    }
      where
        Fewer : Name → Type 0
        Fewer a = s.kept a && eqb (s.colour (s.at a 0)) (black_word s.cycle) ≡ true

        down : (a : Name) → s.kept a && eqb (s.colour (s.at a 0)) (black_word s.cycle) ≡ true
            → Kept s a × (s.colour (s.at a 0) ≡ black_word s.cycle)
        down a la = let p = and_parts (s.kept a) (eqb (s.colour (s.at a 0)) (black_word s.cycle)) la
            in (p.0, eqb-true _ _ p.1)

        up : (a : Name) → Kept s a → s.colour (s.at a 0) ≡ black_word s.cycle
            → s.kept a && eqb (s.colour (s.at a 0)) (black_word s.cycle) ≡ true
        up a ka e = and_from _ _ ka (eq-eqb _ _ e)

        solid : (x : ℕ) → IsKeptBlock c s x → is_free (s.colour x) ≡ false
        solid x (inl r) = k.painted.arrays x r
        solid x (inr b) = subst (λ z. is_free (s.colour z) ≡ false) (sym b.is)
            (k.painted.solid b.name b.ordinal b.kept b.low)

        kept_mark : (x : ℕ) → IsKnownBlock c s x ⊎ IsBuilt c.width c.threads s.builds x
            → IsKeptBlock c s x
        kept_mark x (inl b) = known_is_kept c s k mark x b
        kept_mark x (inr b) = absurd (no_built x b)

        marked : (x : ℕ) → IsDark s.cycle (s.colour x) → IsKeptBlock c s x
        marked x d = kept_mark x (k.painted.marked x d)

        closed : Closed c.threads (λ a. s.kept a && eqb (s.colour (s.at a 0)) (black_word s.cycle)
            ≡ true)
            (object_of g) (register_of g)
        closed = flip_closed c.width c.threads c.blocks s.cycle (Kept s)
            (λ a. s.kept a && eqb (s.colour (s.at a 0)) (black_word s.cycle) ≡ true) g s.at w
            (pending_registers s.seen.loads) s.colour (shown c s k) k.painted.fits solid marked
            no_late none tricolour
            (k.marking mark).roots down up

    reached_closed : Closed c.threads (λ a. reachable g a ≡ true) (object_of g) (register_of g)
    reached_closed = record {
      fields = λ a i ra. value_kept (Kept s) (λ b. reachable g b ≡ true)
          (field_of (object_of g a) i) (λ d e _. (reachable_closed g).fields a d i ra e)
          ((shown c s k).closed.fields a i (reached_kept a ra));
      registers = λ t r tn rl. value_kept (Kept s) (λ b. reachable g b ≡ true) (register_of g t r)
          (λ d e _. (reachable_closed g).registers t r d e)
          ((shown c s k).closed.registers t r tn rl);
    }

    started_fits : ((x : ℕ) → s.colour x ≢ white_word s.cycle) → (x : ℕ)
        → IsColoured s.cycle (s.colour x) → IsColoured (s.cycle + 1) (s.colour x)
    started_fits passed x (inl free) = inl free
    started_fits passed x (inr (inl white)) = absurd (passed x white)
    started_fits passed x (inr (inr (inl grey))) = inr (inr (inl grey))
    started_fits passed x (inr (inr (inr black))) = inr (inl (black ∙ sym (white-next s.cycle)))

    started_marked : s.sweep ≡ true → ((x : ℕ) → s.colour x ≢ white_word s.cycle) → (x : ℕ)
        → IsDark (s.cycle + 1) (s.colour x) → Belongs c.width c.threads (λ a. reachable g a ≡ true)
        (sizes c s) s.at x ⊎ IsBuilt c.width c.threads s.builds x
    started_marked sweep passed x (inl grey) =
        (let r = (k.sweeping sweep).greys x grey in inl
        (inl (subst (λ y. (0 < y) × (y ≤ registers_end c.width c.threads)) (sym r.2)
        (root_in c.width c.threads r.0 r.1))))
    started_marked sweep passed x (inr black) = absurd (passed x (black ∙ black-next s.cycle))

    pub starts : s.sweep ≡ true → ((x : ℕ) → s.colour x ≢ white_word s.cycle)
        → ((t : ℕ) → t < c.threads → s.shaded t ≡ true) → Invariant c (apply c s Start)
    starts sweep passed shaded = record {
      ordered = record {
        legal = legal_history_more c s.order Started k.ordered.legal tt;
        replayed = k.ordered.replayed ∙ sym (replay_more (start_graph c) s.order Started);
        started = starts_append s.order (Started ∷ []) ∙ ap (λ z. z + 1) k.ordered.started;
        some = omega (arith, k.ordered.some);
        since = λ a ra. inl (subst (λ (h : Graph). reachable h a ≡ true)
            (k.ordered.replayed ∙ sym (graph_at_next c s.order [])
            ∙ ap (λ z. graph_at c (s.order ++ Started ∷ []) (z + 1)) k.ordered.started) ra);
      };
      older = λ t r tn rl is. absurd (differ _ is (no_late t r tn rl));
      follows = record {
        shows = fewer_names c.width c.threads c.blocks (Kept s) g s.at w
            (pending_registers s.seen.loads) (shown c s k)
            (λ a. reachable g a ≡ true) reached_kept reached_closed no_late;
        loads = k.follows.loads;
      };
      known = λ a ra. ra;
      named = λ a ra. k.named a (k.known a (reached_kept a ra));
      painted = record {
        fits = λ x. started_fits passed x (k.painted.fits x);
        arrays = k.painted.arrays;
        solid = λ a o ra ol. k.painted.solid a o (reached_kept a ra) ol;
        marked = λ x d. started_marked sweep passed x d;
      };
      builds = λ t tn. subst (λ o. IfSome o (λ b. IsBuild c.width c.threads c.blocks (s.cycle + 1)
          s.colour w b))
          (sym (alone.builds t tn)) tt;
      titles = k.titles;
      scans = λ t tn some. absurd (some (alone.scans t tn));
      marking = λ _. record {
        all = λ a ra. ra;
        roots = λ t tn. inl ((k.sweeping sweep).roots t tn (shaded t tn));
      };
      sweeping = λ e. absurd (differ false e refl);
    }
