-- What holds of a state that is kept: what its builders hold, and where its words refer.
use Rattle.std.proofs.Common.{◌≡◌, ◌≢◌, ℕ, ◌≤◌, ◌<◌, ◌⊎◌, inl, inr, Bool, true, false, arith, subst, sym, ap, ◌∙◌, Some}
use Rattle.std.proofs.lemmas.Bool.{cases_lt}
use Rattle.block_store.specs.declared.Config.{Config}
use Rattle.block_store.specs.declared.Name.{Name}
use Rattle.block_store.specs.declared.Value.{Value}
use Rattle.block_store.specs.declared.Width.{Width}
use Rattle.block_store.specs.Colours.{is_free, is_grey, black_word}
use Rattle.block_store.specs.Registers.{root_block}
use Rattle.block_store.proofs.Lemmas.{black_grey, black_solid, changed_both, one_wide}
use Rattle.never_heap.specs.Graphs.{Graph, next_name, same_name}
use Rattle.never_heap.proofs.Lemmas.{not_next}
use Rattle.heap_invariant.specs.graph_relation.Words.{BlockWords, value_word}
use Rattle.heap_invariant.specs.graph_relation.GraphOfWords.{IsValueOf, heads, Shows}
use Rattle.heap_invariant.specs.graph_relation.Events.{pending_registers, value_at, HasValue, ValueIs}
use Rattle.heap_invariant.proofs.graph_relation.Names.{is_same}
use Rattle.heap_invariant.specs.name_invariant.Building.{Build, build_blocks, IsBuild, IsBuilt, NotHeld, IsHeldOnce}
use Rattle.heap_invariant.specs.name_invariant.Colouring.{IfRefers, IsDark, IsColoured, IsRegisterBlock, NotRoot, IsBlockOf, Belongs, SweepColours}
use Rattle.block_store.specs.Counts.{changed}
use Rattle.heap_invariant.specs.name_invariant.States.{KeptState, sizes, Known, Kept, IsKnownBlock, IsKeptBlock}
use Rattle.heap_invariant.specs.name_invariant.Events.{with_colour, loaded_word}
use Rattle.heap_invariant.specs.name_invariant.Invariant.{Invariant}
use Rattle.heap_invariant.proofs.name_invariant.Colours.{differ, painted_at}
use Rattle.heap_invariant.proofs.name_invariant.HeldBlocks.{some_is, some_case, held_is, not_held_array, build_recoloured}
use Rattle.heap_invariant.proofs.name_invariant.WordTargets.{refers_same, kept_value_refers, block_behind, behind_roots}

-- blocks of more names
pub belongs_more : (W : Width) (n : ℕ) (K L : Name → Type 0) (blocks : Name → ℕ) (at : Name → ℕ → ℕ)
    (x : ℕ) → ((a : Name) → K a → L a) → Belongs W n K blocks at x → Belongs W n L blocks at x
belongs_more W n K L blocks at x more (inl r) = inl r
belongs_more W n K L blocks at x more (inr b) = inr
    (record {
      name = b.name;
      ordinal = b.ordinal;
      kept = more b.name b.kept;
      low = b.low;
      is = b.is;
    })

module _ (c : Config) (s : KeptState) (k : Invariant c s) where
  abbrev g : Graph
  g = s.seen.graph

  abbrev w : BlockWords
  w = s.seen.words

  abbrev pending : ℕ → ℕ → Bool
  pending = pending_registers s.seen.loads

  pub shown : Shows c.width c.threads c.blocks (Kept s) g s.at w pending
  shown = k.follows.shows

  pub build_of : (t : ℕ) (b : Build) → t < c.threads → s.builds t ≡ Some b
      → IsBuild c.width c.threads c.blocks s.cycle s.colour w b
  build_of t b tn e = some_is (λ b. IsBuild c.width c.threads c.blocks s.cycle s.colour w b)
      (s.builds t) b e
      (k.builds t tn)

  pub title_of : (t : ℕ) (b : Build) → t < c.threads → s.builds t ≡ Some b → b.name ≡ next_name g t
  title_of t b tn e = some_is (λ (b : Build). b.name ≡ next_name g t) (s.builds t) b e
      (k.titles t tn)

  -- a name that is being built is not known
  pub unknown : (t : ℕ) (b : Build) → t < c.threads → s.builds t ≡ Some b → Known s b.name → ⊥
  unknown t b tn e known =
      let fresh : same_name (next_name g t) b.name ≡ false = not_next g t b.name
      (k.named b.name known) in
      differ _ (is_same (next_name g t) b.name (sym (title_of t b tn e))) fresh

  -- a block of a kept object is not held: it is not Free, and what is black has another owner
  pub kept_not_held : (x : ℕ) → IsBlockOf (Kept s) (sizes c s) s.at x → (t : ℕ) (b : Build)
      → t < c.threads
      → s.builds t ≡ Some b → NotHeld b x
  kept_not_held x q t b tn is o ol e = either
      (held_is c.width c.threads c.blocks s.cycle s.colour w b (build_of t b tn is) o ol)
    where
      either : (is_free (s.colour (b.held o)) ≡ true)
          ⊎ ((b.left ≤ o) × (o < build_blocks c.width b)
          × (s.colour (b.held o) ≡ black_word s.cycle)) → ⊥
      either (inl f) = differ _ (subst (λ z. is_free (s.colour z) ≡ true) (sym e ∙ q.is) f)
          (k.painted.solid q.name q.ordinal q.kept q.low)
      either (inr h) =
          let build = build_of t b tn is in
          let one = one_wide b.name.thread b.name.serial o q.name.thread q.name.serial q.ordinal
          build.thread (omega (arith, build.few_blocks, h.1))
          (shown.numbered.threads q.name q.kept)
          (omega (arith, q.low, shown.numbered.ordinals q.name q.kept))
          (sym (build.written o h.0 h.1).owned ∙ ap w.owner (sym e ∙ q.is)
          ∙ (shown.written.blocks q.name q.ordinal q.kept q.low).owned) in
          unknown t b tn is (subst (Known s)
          (λ i. record { thread = sym one.0 i; serial = sym one.1 i }) (k.known q.name q.kept))

  pub belongs_not_held : (x : ℕ) → IsKeptBlock c s x → (t : ℕ) (b : Build) → t < c.threads
      → s.builds t ≡ Some b → NotHeld b x
  belongs_not_held x (inl r) t b tn is = not_held_array c.width c.threads c.blocks s.cycle s.colour
      w b
      (build_of t b tn is) x r.1
  belongs_not_held x (inr q) t b tn is = kept_not_held x q t b tn is

  -- nor is a Free block that another thread holds
  pub once_not_held : (t o x : ℕ) → is_free (s.colour x) ≡ true → IsHeldOnce c.threads s.builds t o
      x
      → (u : ℕ) (b : Build) → u < c.threads → (t ≡ u → ⊥) → s.builds u ≡ Some b → NotHeld b x
  once_not_held t o x free once u b un ne is p pl e = elim (cases_lt p b.left) [
    | inl lo ↦ ne (once u p b un is pl lo e).0
    | inr hi ↦
        let build = build_of u b un is in
        differ _ (subst (λ z. is_free (s.colour z) ≡ true) e free)
        (black_solid s.cycle _ (build.black p hi (omega (arith, build.some))))
  ]

  -- what a builder has coloured is black
  pub built_black : (x : ℕ) → IsBuilt c.width c.threads s.builds x → s.colour x ≡ black_word s.cycle
  built_black x q = ap s.colour q.is ∙ (build_of q.thread q.build q.there q.builds_it).black
      q.ordinal q.coloured q.low

  pub grey_known : (x : ℕ) → is_grey (s.colour x) ≡ true → IsKnownBlock c s x
  grey_known x grey = either (k.painted.marked x (inl grey))
    where
      either : IsKnownBlock c s x ⊎ IsBuilt c.width c.threads s.builds x → IsKnownBlock c s x
      either (inl b) = b
      either (inr q) = absurd (black_grey s.cycle _ (built_black x q) grey)

  pub kept_is_known : (x : ℕ) → IsKeptBlock c s x → IsKnownBlock c s x
  kept_is_known x b = belongs_more c.width c.threads (Kept s) (Known s) (sizes c s) s.at x k.known b

  pub known_is_kept : s.sweep ≡ false → (x : ℕ) → IsKnownBlock c s x → IsKeptBlock c s x
  known_is_kept mark x b = belongs_more c.width c.threads (Known s) (Kept s) (sizes c s) s.at x
      (k.marking mark).all b

  -- a kept block is not white while the phase is Sweep, and black but for roots
  pub kept_black : s.sweep ≡ true → (x : ℕ) → IsBlockOf (Kept s) (sizes c s) s.at x
      → (s.colour x ≡ black_word s.cycle) × NotRoot c.width c.threads x
  kept_black sweep x q = (
    ap s.colour q.is ∙ (k.sweeping sweep).kept q.name q.ordinal q.kept q.low,
    behind_roots c.width c.threads x (block_behind c.width c.threads c.blocks (Kept s) g s.at w
        pending shown x q),
  )

  -- what a kept value's word refers to
  pub value_refers : (v : Value) → IsValueOf (Kept s) v
      → IfRefers (IsBlockOf (Kept s) (sizes c s) s.at) (value_word (heads s.at) v)
  value_refers v kept = kept_value_refers c.width c.threads c.blocks (Kept s) g s.at w pending shown
      v kept

  -- what a thread has loaded
  pub value_is : (t : ℕ) → t < c.threads → HasValue s.seen t → ValueIs g s.at t (value_at s.seen t)
  value_is t tn has = some_is (λ v. ValueIs g s.at t v) _ _ has (k.follows.loads t tn).value

  pub loaded_kept : (t : ℕ) → t < c.threads → HasValue s.seen t
      → IfRefers (IsBlockOf (Kept s) (sizes c s) s.at) (loaded_word s t)
  loaded_kept t tn has =
      let v = value_is t tn has in
      refers_same (IsBlockOf (Kept s) (sizes c s) s.at) _ _ v.word
      (value_refers _ (shown.closed.registers t (value_at s.seen t).origin tn v.origin))

  -- Block x becomes v.
  pub recoloured : (x v : ℕ) (shaded : ℕ → Bool) → IsColoured s.cycle v
      → (IsRegisterBlock c.width c.threads x → is_free v ≡ false)
      → (IsBlockOf (Kept s) (sizes c s) s.at x → is_free v ≡ false)
      → (IsDark s.cycle v → IsKnownBlock c s x ⊎ IsBuilt c.width c.threads s.builds x)
      → (s.sweep ≡ false → IsDark s.cycle v)
      → ((t : ℕ) (b : Build) → t < c.threads → s.builds t ≡ Some b → NotHeld b x)
      → (s.sweep ≡ true → SweepColours c.width c.threads s.cycle (Kept s) (sizes c s) s.at
      (changed s.colour x v) w.payload shaded)
      → Invariant c (record (with_colour s x v) { shaded = shaded })
  recoloured x v shaded fits arrays solid marked dark away sweeping = record {
    ordered = k.ordered;
    follows = k.follows;
    older = k.older;
    known = k.known;
    named = k.named;
    painted = painted_at c.width c.threads s.cycle (Known s) (Kept s) (sizes c s) s.at s.colour
        (IsBuilt c.width c.threads s.builds) x v fits arrays solid marked k.painted;
    builds = λ t tn. some_case (λ b. IsBuild c.width c.threads c.blocks s.cycle
        (changed s.colour x v) w b) (s.builds t)
        (λ b is. build_recoloured c.width c.threads c.blocks s.cycle s.colour w b
        (build_of t b tn is) x v
        (away t b tn is));
    titles = k.titles;
    scans = k.scans;
    marking = λ mark. (let q = k.marking mark in record {
      all = q.all;
      roots = λ t tn. changed_both (λ y w. IsDark s.cycle w) s.colour x v
          (root_block c.width t) (λ _. dark mark) (λ _. q.roots t tn);
    });
    sweeping = sweeping;
  }

  -- A scan has read something, or goes on.
  pub scanned : (t y : ℕ) → (y ≢ 0 → IsKnownBlock c s y)
      → Invariant c (record s { scans = changed s.scans t y })
  scanned t y is = record {
    ordered = k.ordered;
    follows = k.follows;
    older = k.older;
    known = k.known;
    named = k.named;
    painted = k.painted;
    builds = k.builds;
    titles = k.titles;
    scans = λ u un. changed_both (λ u z. z ≢ 0 → IsKnownBlock c s z) s.scans t y u (λ _. is)
        (λ _. k.scans u un);
    marking = k.marking;
    sweeping = k.sweeping;
  }
