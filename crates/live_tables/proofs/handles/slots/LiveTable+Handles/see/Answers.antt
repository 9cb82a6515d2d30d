use Rattle.std.proofs.Common.{ℕ, ◌∙◌, ◌∷◌, [], ap}
use Rattle.array_tables.specs.handle_table.Handles.{See}
use Rattle.live_tables.specs.handles.Live.{commands_of, place_in}
use Rattle.live_tables.proofs.handles.slots.LiveTable+Handles.see.Goals as goal

-- the commands of a see do not name the make that it is about
pub done-requires-clause-commands : goal.done-requires-clause-commands
done-requires-clause-commands g c =
    c.see_commands-commands.ensures 0 0
    ∙ ap (λ (i : ℕ). commands_of (See 0 0 c.args.handle i ∷ []))
    (c.place-slot.ensures ∙ ap place_in c.slot_of.ensures)
