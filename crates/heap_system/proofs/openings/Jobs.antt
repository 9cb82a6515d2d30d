-- Jobs on small heaps, for the tests.
use Rattle.std.proofs.Common.{◌≡◌, List, [], ◌∷◌, refl, sym, subst, arith}
use Rattle.block_store.specs.declared.Config.{Config}
use Rattle.block_store.specs.declared.Width.{Width}
use Rattle.block_store.specs.declared.Width.TheVariants.{Four, Eight}
use Rattle.block_store.specs.Configs.{IsInBounds}
use Rattle.array_trees.specs.Trees.{tree}
use Rattle.rate_plan.specs.Rates.{IsAdmitted}
use Rattle.never_heap.specs.declared.Command.{Command}
use Rattle.never_heap.specs.Bounds.{IsCommandInBounds}
use Rattle.never_heap.specs.Jobs.{IsTraceInBounds}
use Rattle.heap_system.specs.Machines.{IsJob}
use Rattle.heap_system.proofs.openings.TextLives.{job_of_text}

-- two threads with a small shared array
abbrev pub config : Width → Config
config w = record { width = w; threads = 2; blocks = 64; live = 20; object = 2; shared = 4 }

-- a trace of two commands
pub two : (w : Width) (a b : Command) → IsCommandInBounds (config w) a → IsCommandInBounds (config w) b → IsTraceInBounds (config w) (a ∷ b ∷ [])
two w a b pa pb = record { few = omega arith; commands = (pa, (pb, tt)) }

admitted : (w : Width) → IsAdmitted (config w)
unfolding tree
admitted Four = record { opens = omega arith; room = omega arith }
admitted Eight = record { opens = omega arith; room = omega arith }

pub both : (w : Width) (xs ys : List Command) → IsTraceInBounds (config w) xs → IsTraceInBounds (config w) ys → IsJob (config w) (xs ∷ ys ∷ [])
both w xs ys px py = job_of_text (config w) (xs ∷ ys ∷ []) (record {
  config = record { some_thread = omega arith; threads = omega arith; some_block = omega arith; blocks = omega arith; live = omega arith; some_object = omega arith; object = omega arith; shared = omega arith };
  threads = refl;
  each = (px, (py, tt));
}) (admitted w)

pub both_of : (w : Width) (c : Config) (xs ys : List Command) → c ≡ config w → IsTraceInBounds c xs → IsTraceInBounds c ys → IsJob c (xs ∷ ys ∷ [])
both_of w c xs ys is px py = subst (λ x. IsJob x (xs ∷ ys ∷ [])) (sym is) (both w xs ys (subst (λ x. IsTraceInBounds x xs) is px) (subst (λ x. IsTraceInBounds x ys) is py))

-- a lone thread with an empty one
abbrev pub small : Width → Config
small w = record { width = w; threads = 1; blocks = 64; live = 20; object = 2; shared = 0 }

small_admitted : (w : Width) → IsAdmitted (small w)
unfolding tree
small_admitted Four = record { opens = omega arith; room = omega arith }
small_admitted Eight = record { opens = omega arith; room = omega arith }

lone_here : (w : Width) (xs : List Command) → IsTraceInBounds (small w) xs → IsJob (small w) (xs ∷ [])
lone_here w xs px = job_of_text (small w) (xs ∷ []) (record {
  config = record { some_thread = omega arith; threads = omega arith; some_block = omega arith; blocks = omega arith; live = omega arith; some_object = omega arith; object = omega arith; shared = omega arith };
  threads = refl;
  each = (px, tt);
}) (small_admitted w)

pub lone : (w : Width) (c : Config) (xs : List Command) → c ≡ small w → IsTraceInBounds c xs → IsJob c (xs ∷ [])
lone w c xs is px = subst (λ x. IsJob x (xs ∷ [])) (sym is) (lone_here w xs (subst (λ x. IsTraceInBounds x xs) is px))

-- one thread of a heap with a long array
abbrev pub long : Config
long = record { width = Four; threads = 1; blocks = 1024; live = 400; object = 16; shared = 1024 }

pub long_in_bounds : IsInBounds long
long_in_bounds = record { some_thread = omega arith; threads = omega arith; some_block = omega arith; blocks = omega arith; live = omega arith; some_object = omega arith; object = omega arith; shared = omega arith }

pub alone : (xs : List Command) → IsAdmitted long → IsTraceInBounds long xs → IsJob long (xs ∷ [])
alone xs plan px = job_of_text (long) (xs ∷ []) (record { config = long_in_bounds; threads = refl; each = (px, tt) }) (plan)
