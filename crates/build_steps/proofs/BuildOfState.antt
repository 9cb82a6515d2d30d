-- What a state builds, for the rules of kept names; and where these hold, what it has written
-- is.
use Rattle.std.proofs.Common.{
  ◌≡◌,
  ℕ,
  suc,
  ◌<◌,
  ◌≤◌,
  true,
  false,
  None,
  IfSome,
  refl,
  arith,
  subst,
  sym,
  ◌∙◌,
  List,
}
use Rattle.block_store.specs.declared.Config.{Config}
use Rattle.block_store.specs.declared.Width.{Width}
use Rattle.block_store.specs.Phases.{cycle_of}
use Rattle.block_store.specs.Heaps.{Heap}
use Rattle.block_store.specs.Places.{Phase, ColourOf}
use Rattle.block_store.specs.Widths.{payloads}
use Rattle.never_heap.specs.Graphs.{Graph}
use Rattle.never_heap.specs.Histories.{HistoryItem}
use Rattle.heap_invariant.specs.graph_relation.Words.{block_words}
use Rattle.heap_invariant.specs.name_invariant.Building.{Build, build_blocks, IsBuild}
use Rattle.heap_invariant.specs.name_invariant.Pictures.{Names, Task}
use Rattle.heap_machine.specs.WorkInHand.{WorkInHand}
use Rattle.build_steps.specs.declared.rows.BuildRow.{BuildRow}
use Rattle.build_steps.specs.declared.rows.BuildRow.TheVariants.{
  ReadCount,
  Reserve,
  Built,
  Refused,
}
use Rattle.build_steps.specs.LinearizationPoints.{is_built}
use Rattle.build_steps.specs.Fits.{RowFits, BuildFits}
use Rattle.build_steps.specs.Naming.{
  HoldsBuild,
  IsPictured,
  build_of,
  built_object,
  row_build,
}
use Rattle.build_steps.specs.Rows.{BuildState, build_over, row_in_hand, build_in_hand}
use Rattle.build_steps.specs.Standing.{IsWhole, IsBegun, Stands, left_of, begun_of}
use Rattle.build_steps.proofs.DistinctHeldBlocks.{row_holds}
use Rattle.build_steps.proofs.Parts.{has_blocks}
use Rattle.build_steps.proofs.Shapes.{made_blocks, payload_made, shape_made}

over_row : (W : Width) (s : BuildState) (r : BuildRow) → build_over r ≡ true
    → row_build W s r ≡ None
over_row W s Built e = refl
over_row W s Refused e = refl
over_row W s _ e = absurd (let z : false ≡ true = e in cc)

pub over_builds_none : (W : Width) (s : BuildState) → build_over s.row ≡ true
    → build_of W s ≡ None
over_builds_none W s e = over_row W s s.row e

holds_row : (c : Config) (s : BuildState) (r : BuildRow) → RowFits c s.blocks s.held r
    → HoldsBuild (row_build c.width s r) (row_in_hand s.blocks s.held r)
holds_row c s ReadCount f = tt
holds_row c s (Reserve seen) f = tt
holds_row c s Built f = tt
holds_row c s Refused f = tt
holds_row c s r f = λ o low left. row_holds c s.blocks s.held r o f low left

pub holds_build : (c : Config) (s : BuildState) → BuildFits c s
    → HoldsBuild (build_of c.width s) (build_in_hand s)
holds_build c s f = holds_row c s s.row f.row

-- the object takes the state's blocks
pub sized : (c : Config) (s : BuildState) → BuildFits c s → (left step : ℕ)
    → build_blocks c.width (built_object s left step) ≡ s.blocks
sized c s f left step = made_blocks c.width s.command (has_blocks c s f) ∙ sym f.size

module _ (c : Config) (h : Heap) (s : BuildState) (f : BuildFits c s) where
  abbrev IsBuildOf : Build → Type 0
  IsBuildOf b =
      IsBuild c.width c.threads c.blocks s.cycle (λ x. h (ColourOf x)) (block_words h) b

  -- the ordinals from left on are whole, and of the one before it so many words are written
  record IsStanding (left step : ℕ) : Type 0 where
    whole : (o : ℕ) → left ≤ o → o < s.blocks → IsWhole c.width h s o
    begun : (o : ℕ) → suc o ≡ left → IsBegun c.width h s o step

  none_stands : IsStanding s.blocks 0
  none_stands = record {
    whole = λ o from low. absurd (omega arith);
    begun = λ o last. record {
      owned = λ some. absurd (omega arith);
      shaped = λ some. absurd (omega arith);
      links = λ j low some. absurd (omega arith);
    };
  }

  build_stands : (left step : ℕ) → IsBuildOf (built_object s left step) → IsStanding left step
  build_stands left step k =
      let all = sized c s f left step in
      record {
        whole = λ o from low.
            let hi : o < build_blocks c.width (built_object s left step) = omega (arith, all) in
            let w = k.written o from hi in
            record {
              owned = w.owned;
              shaped = w.shaped ∙ shape_made c.width s.command (has_blocks c s f);
              links = λ j few. w.links j few
                  ∙ payload_made c.width s.command s.held o j (has_blocks c s f);
              black = k.black o from hi;
            };
        begun = λ o last.
            let w = k.begun o last in
            record {
              owned = w.owned;
              shaped = λ some. w.shaped some ∙ shape_made c.width s.command (has_blocks c s f);
              links = λ j few some. w.links j few some
                  ∙ payload_made c.width s.command s.held o j (has_blocks c s f);
            };
      }

  stands_row : (r : BuildRow) → is_built r ≡ false → IfSome (row_build c.width s r) IsBuildOf
      → IsStanding (left_of s.blocks r) (begun_of (payloads c.width) r)
  stands_row ReadCount e k = none_stands
  stands_row (Reserve seen) e k = none_stands
  stands_row Refused e k = none_stands
  stands_row Built e k = absurd (let z : true ≡ false = e in cc)
  stands_row r e k = build_stands (left_of s.blocks r) (begun_of (payloads c.width) r) k

  pub stands : IfSome (build_of c.width s) IsBuildOf → is_built s.row ≡ false
      → Stands c.width h s
  stands k e =
      let w = stands_row s.row e k in
      record { whole = w.whole; begun = w.begun }

pub thread_low : (c : Config) (s : BuildState) → BuildFits c s → s.thread < c.threads
thread_low c s f = subst (λ n. s.thread < n) f.threads f.thread

pub pictured_stands : (c : Config) (g : Graph) (order : List HistoryItem) (h : Heap)
    (names : Names) (tasks : ℕ → Task) (hs : ℕ → WorkInHand) (s : BuildState)
    → IsPictured c g order h names tasks hs s → is_built s.row ≡ false → Stands c.width h s
pictured_stands c g order h names tasks hs s p e =
    let k = p.kept.builds s.thread (thread_low c s p.fits) in
    let mine = subst (λ o. IfSome o (λ b. IsBuild c.width c.threads c.blocks (cycle_of (h Phase))
    (λ x. h (ColourOf x)) (block_words h) b)) p.build k in
    stands c h s p.fits (subst (λ n. IfSome (build_of c.width s) (λ b.
    IsBuild c.width c.threads c.blocks n (λ x. h (ColourOf x)) (block_words h) b)) p.cycle mine) e
