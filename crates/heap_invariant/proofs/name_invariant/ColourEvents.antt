-- Marking and sweeping: each event that colours a block, and the reads of a scan.
use Rattle.std.proofs.Common.{◌≡◌, ◌≢◌, ℕ, ◌<◌, inl, inr, true, false, refl}
use Rattle.block_store.specs.declared.Config.{Config}
use Rattle.block_store.specs.Colours.{is_grey, free_word, grey_word, black_word, white_word}
use Rattle.block_store.specs.Payloads.{target}
use Rattle.block_store.specs.Registers.{root_block}
use Rattle.block_store.specs.Widths.{payloads}
use Rattle.block_store.proofs.Lemmas.{black_grey, free_free, grey_grey, not_free_black, not_free_grey, white_black, white_solid}
use Rattle.heap_invariant.specs.graph_relation.Events.{HasValue, pending_registers}
use Rattle.heap_invariant.specs.graph_relation.Words.{BlockWords}
use Rattle.block_store.specs.Counts.{changed}
use Rattle.heap_invariant.specs.name_invariant.States.{KeptState, sizes, Kept, IsKnownBlock}
use Rattle.heap_invariant.specs.name_invariant.Events.{apply, with_colour, loaded_word}
use Rattle.heap_invariant.specs.name_invariant.Events.KeptEvent.{ReadWord, ShadeRead, Blacken, ShadeLoaded, Free, ShadeRoot}
use Rattle.heap_invariant.specs.name_invariant.Invariant.{Invariant}
use Rattle.heap_invariant.proofs.name_invariant.Colours.{differ, dark_solid, white_not_kept, white_not_array, freed, root_shaded}
use Rattle.heap_invariant.proofs.name_invariant.HeldBlocks.{not_held_colour, not_held_array}
use Rattle.heap_invariant.proofs.name_invariant.WordTargets.{belongs_refers, root_in, behind_roots}
use Rattle.heap_invariant.proofs.name_invariant.KeptStates.{shown, build_of, grey_known, kept_is_known, known_is_kept, loaded_kept, recoloured, scanned}

module _ (c : Config) (s : KeptState) (k : Invariant c s) where
  abbrev w : BlockWords
  w = s.seen.words

  not_both : s.sweep ≡ false → s.sweep ≡ true → ⊥
  not_both f t = differ s.sweep t f

  -- a white block of a known name becomes grey
  shades : (x a : ℕ) → s.sweep ≡ false → s.colour x ≡ white_word s.cycle → IsKnownBlock c s x
      → Invariant c (with_colour s x (grey_word a))
  shades x a mark white known = recoloured c s k x (grey_word a) s.shaded
      (inr (inr (inl (grey_grey a)))) (λ _. not_free_grey a) (λ _. not_free_grey a) (λ _. inl known)
      (λ _. inl (grey_grey a))
      (λ t b tn is. not_held_colour c.width c.threads c.blocks s.cycle s.colour w b
      (build_of c s k t b tn is) x
      (white_solid s.cycle _ white) (λ e. white_black s.cycle _ white e))
      (λ sweep. absurd (not_both mark sweep))

  pub reads_word : (t x j : ℕ) → s.sweep ≡ false → is_grey (s.colour x) ≡ true
      → j < payloads c.width
      → Invariant c (apply c s (ReadWord t x j))
  reads_word t x j mark grey jl = scanned c s k t (target (w.payload x j))
      (λ some. kept_is_known c s k (target (w.payload x j))
      (belongs_refers c.width c.threads c.blocks (Kept s) s.seen.graph s.at w
      (pending_registers s.seen.loads)
      (shown c s k) x j (known_is_kept c s k mark x (grey_known c s k x grey)) jl some).0)

  pub shades_read : (t a : ℕ) → s.sweep ≡ false → t < c.threads → s.scans t ≢ 0
      → s.colour (s.scans t) ≡ white_word s.cycle → Invariant c (apply c s (ShadeRead t a))
  shades_read t a mark tn some white = scanned c _
      (shades (s.scans t) a mark white (k.scans t tn some)) t 0 (λ z. absurd (z refl))

  pub blackens : (x : ℕ) → s.sweep ≡ false → is_grey (s.colour x) ≡ true
      → Invariant c (apply c s (Blacken x))
  blackens x mark grey = recoloured c s k x (black_word s.cycle) s.shaded (inr (inr (inr refl)))
      (λ _. not_free_black s.cycle) (λ _. not_free_black s.cycle)
      (λ _. k.painted.marked x (inl grey)) (λ _. inr refl)
      (λ t b tn is. not_held_colour c.width c.threads c.blocks s.cycle s.colour w b
      (build_of c s k t b tn is) x
      (dark_solid s.cycle _ (inl grey)) (λ e. black_grey s.cycle _ e grey))
      (λ sweep. absurd (not_both mark sweep))

  pub shades_loaded : (t a : ℕ) → s.sweep ≡ false → t < c.threads → HasValue s.seen t
      → target (loaded_word s t) ≢ 0 → s.colour (target (loaded_word s t)) ≡ white_word s.cycle
      → Invariant c (apply c s (ShadeLoaded t a))
  shades_loaded t a mark tn has some white = shades (target (loaded_word s t)) a mark white
      (kept_is_known c s k (target (loaded_word s t)) (inr (loaded_kept c s k t tn has some)))

  pub frees : (x a : ℕ) → s.sweep ≡ true → s.colour x ≡ white_word s.cycle
      → Invariant c (apply c s (Free x a))
  frees x a sweep white =
      let q = k.sweeping sweep in
      recoloured c s k x (free_word a) s.shaded (inl (free_free a))
      (λ r. absurd (white_not_array c.width c.threads s.cycle (Kept s) (sizes c s) s.at s.colour
      w.payload
      s.shaded q x white r))
      (λ b. absurd (white_not_kept c.width c.threads s.cycle (Kept s) (sizes c s) s.at s.colour
      w.payload s.shaded
      q x white b))
      (λ d. absurd (differ _ (free_free a) (dark_solid s.cycle _ d)))
      (λ mark. absurd (not_both mark sweep))
      (λ t b tn is. not_held_colour c.width c.threads c.blocks s.cycle s.colour w b
      (build_of c s k t b tn is) x
      (white_solid s.cycle _ white) (λ e. white_black s.cycle _ white e))
      (λ _. freed c.width c.threads s.cycle (Kept s) (sizes c s) s.at s.colour w.payload s.shaded q
      x
      (free_word a) white (free_free a))

  pub shades_root : (t a : ℕ) → s.sweep ≡ true → t < c.threads
      → Invariant c (apply c s (ShadeRoot t a))
  shades_root t a sweep tn =
      let x = root_block c.width t in
      let r = root_in c.width c.threads t tn in
      recoloured c s k (root_block c.width t) (grey_word a) (changed s.shaded t true)
      (inr (inr (inl (grey_grey a)))) (λ _. not_free_grey a) (λ _. not_free_grey a)
      (λ _. inl (inl r)) (λ _. inl (grey_grey a))
      (λ u b un is. not_held_array c.width c.threads c.blocks s.cycle s.colour w b
      (build_of c s k u b un is)
      (root_block c.width t) r.1)
      (λ _. root_shaded c.width c.threads s.cycle (Kept s) (sizes c s) s.at s.colour w.payload
      s.shaded
      (k.sweeping sweep) t (grey_word a) tn (grey_grey a)
      (λ b o kb ol. behind_roots c.width c.threads (s.at b o)
      ((shown c s k).placed.behind b o kb ol)))
