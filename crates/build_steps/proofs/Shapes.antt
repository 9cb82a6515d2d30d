-- The object that a command makes, as the rules of kept names say it: its kind and size, its
-- blocks, its words, and its command.
use Rattle.std.proofs.Common.{◌≡◌, ℕ, ◌≤◌, Option, Some, None, refl, arith, ap, ◌∙◌, List}
use Rattle.block_store.specs.declared.Value.TheVariants.{Ref}
use Rattle.block_store.specs.declared.Width.{Width}
use Rattle.object_lists.specs.Parts.{link_in}
use Rattle.never_heap.specs.declared.Command.{Command}
use Rattle.never_heap.specs.declared.Command.TheVariants.{New, Arr}
use Rattle.never_heap.specs.Graphs.{Graph, next_name, with_object, with_register}
use Rattle.never_heap.specs.Steps.{blocks_of, length_made, step}
use Rattle.heap_invariant.specs.graph_relation.Layouts.{layout_blocks, layout_part}
use Rattle.heap_invariant.specs.graph_relation.Made as made
use Rattle.heap_invariant.specs.graph_relation.Made.{new_object}
use Rattle.heap_invariant.specs.graph_relation.Words.{kind_word}
use Rattle.heap_invariant.specs.name_invariant.Events.{making}
use Rattle.build_steps.specs.Naming.{made_kind}
use Rattle.build_steps.specs.Objects.{made_register, made_shape, made_part, block_at, link_word}

pub made_blocks : (W : Width) (k : Command) → 1 ≤ blocks_of W k
    → layout_blocks W (made_kind k) (length_made k) ≡ blocks_of W k
made_blocks W (New d f) some = refl
made_blocks W (Arr d e) some = refl
made_blocks W _ some = absurd (omega arith)

pub shape_made : (W : Width) (k : Command) → 1 ≤ blocks_of W k
    → kind_word (made_kind k) (length_made k) ≡ made_shape k
shape_made W (New d f) some = refl
shape_made W (Arr d e) some = refl
shape_made W _ some = absurd (omega arith)

part_made : (W : Width) (k : Command) (o j : ℕ) → 1 ≤ blocks_of W k
    → layout_part W (made_kind k) (length_made k) o j ≡ made_part W k o j
part_made W (New d f) o j some = refl
part_made W (Arr d e) o j some = refl
part_made W _ o j some = absurd (omega arith)

link_made : (held : List ℕ) (r : Option ℕ) → made.link_word (block_at held) r ≡ link_word held r
link_made held None = refl
link_made held (Some o) = refl

-- what is written at payload j of ordinal o
pub payload_made : (W : Width) (k : Command) (held : List ℕ) (o j : ℕ) → 1 ≤ blocks_of W k
    → made.link_word (block_at held) (link_in (layout_part W (made_kind k) (length_made k) o j))
    ≡ link_word held (link_in (made_part W k o j))
payload_made W k held o j some =
    ap (λ p. made.link_word (block_at held) (link_in p)) (part_made W k o j some)
    ∙ link_made held (link_in (made_part W k o j))

pub command_made : (W : Width) (k : Command) → 1 ≤ blocks_of W k
    → making (made_kind k) (made_register k) (length_made k) ≡ k
command_made W (New d f) some = refl
command_made W (Arr d e) some = refl
command_made W _ some = absurd (omega arith)

-- publishing makes of the graph what the command's step does
pub graph_made : (W : Width) (g : Graph) (t : ℕ) (k : Command) → 1 ≤ blocks_of W k
    → with_register (with_object g t (new_object (made_kind k) (length_made k))) t
    (made_register k) (Ref (next_name g t))
    ≡ (step g t k).0
graph_made W g t (New d f) some = refl
graph_made W g t (Arr d e) some = refl
graph_made W g t _ some = absurd (omega arith)
