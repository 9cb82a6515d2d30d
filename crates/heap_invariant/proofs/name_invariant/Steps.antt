-- Each event that may come keeps it.
use Rattle.std.proofs.Common.{refl, List, [], ◌∷◌}
use Rattle.block_store.specs.declared.Config.{Config}
use Rattle.block_store.specs.Configs.{IsInBounds}
use Rattle.heap_invariant.specs.name_invariant.States.{KeptState}
use Rattle.heap_invariant.specs.name_invariant.Events.{KeptEvent, apply, Guard, run, Guarded}
use Rattle.heap_invariant.specs.name_invariant.Events.KeptEvent.{Serve, Decide, Answer, ReadWord, ShadeRead, PassRead, Blacken, ShadeLoaded, Flip, Free, ShadeRoot, Start, Reserve, Collect, WriteOwner, WriteShape, WritePayload, WriteColour, Publish}
use Rattle.heap_invariant.specs.name_invariant.Invariant.{Invariant}
use Rattle.heap_invariant.proofs.name_invariant.KeptStates.{scanned}
use Rattle.heap_invariant.proofs.name_invariant.ColourEvents.{reads_word, shades_read, blackens, shades_loaded, frees, shades_root}
use Rattle.heap_invariant.proofs.name_invariant.FlipAndStart.{flips, starts}
use Rattle.heap_invariant.proofs.name_invariant.Commands.{serves, decides, answers}
use Rattle.heap_invariant.proofs.name_invariant.Builders.{reserves, collects_block, owner_written, shape_written, payload_written, colour_written}
use Rattle.heap_invariant.proofs.name_invariant.PublishEvent.{publishes}

module _ (c : Config) (inside : IsInBounds c) where
  pub step_kept : (s : KeptState) (e : KeptEvent) → Invariant c s → Guard c s e
      → Invariant c (apply c s e)
  step_kept s (Serve e) k q = serves c s k e q
  step_kept s (Decide e entry) k q = decides c s k e entry q
  step_kept s (Answer entry) k q = answers c s k entry q
  step_kept s (ReadWord t x j) k q = reads_word c s k t x j q.0 q.1 q.2
  step_kept s (ShadeRead t a) k q = shades_read c s k t a q.0 q.1 q.2 q.3
  step_kept s (PassRead t) k q = scanned c s k t 0 (λ some. absurd (some refl))
  step_kept s (Blacken x) k q = blackens c s k x q.0 q.1
  step_kept s (ShadeLoaded t a) k q = shades_loaded c s k t a q.0 q.1 q.2 q.3 q.4
  step_kept s Flip k q = flips c s k q.1 q.0 q.2 q.3
  step_kept s (Free x a) k q = frees c s k x a q.0 q.1
  step_kept s (ShadeRoot t a) k q = shades_root c s k t a q.0 q.1
  step_kept s Start k q = starts c s k q.1 q.0 q.2 q.3
  step_kept s (Reserve t kind size) k q = reserves c s k t kind size q
  step_kept s (Collect t x) k q = collects_block c s k t q.0 x q.1 q.2
  step_kept s (WriteOwner t o) k q = owner_written c s k t q.building o q.all q.next q.once q.step
  step_kept s (WriteShape t o) k q = shape_written c s k t q.building o q.all q.next q.once q.step
  step_kept s (WritePayload t o j) k q = payload_written c s k t q.0.building o q.0.all q.0.next
      q.0.once j q.0.step
  step_kept s (WriteColour t o) k q = colour_written c s k t q.building o q.all q.next q.once q.step
  step_kept s (Publish t d work) k q = publishes c inside s k t d work q.0 q.1 q.2 q.3 q.4

  pub run_kept : (es : List KeptEvent) (s : KeptState) → Invariant c s → Guarded c s es
      → Invariant c (run c s es)
  run_kept [] s k q = k
  run_kept (e ∷ es) s k q = run_kept es (apply c s e) (step_kept s e k q.0) q.1
