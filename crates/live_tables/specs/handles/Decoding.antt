-- The deeds that a list of commands does, read off the commands alone.
use Rattle.std.specs.Prelude.{ℕ, ◌+◌, ◌-◌, ◌==◌, ◌&&◌, Bool, true, false, if◌then◌else◌, List, [], ◌∷◌}
use Rattle.never_heap.specs.declared.Command.{Command}
use Rattle.never_heap.specs.declared.Command.TheVariants as commands
use Rattle.array_tables.specs.handle_table.Handles.{Deed, Make, See, Drop, Take, Evict, last_after}

-- What was read of the commands so far: how many handles were made, of each h one more than the
-- number of its last make, the last two numbers that were set, the place that was fetched last, and
-- whether that was by a get.
pub record Reading : Type 0 where
  pub made : ℕ
  pub last : ℕ → ℕ
  pub before : ℕ
  pub set : ℕ
  pub place : ℕ
  pub got : Bool

abbrev pub nothing_read : Reading
nothing_read = record { made = 0; last = λ h. 0; before = 0; set = 0; place = 0; got = false }

-- the h of a register
abbrev pub h_of : ℕ → ℕ
h_of r = r - 4

-- after a number that was set, a make, and a place that was fetched
abbrev pub set_next : ℕ → Reading → Reading
set_next v r = record r { before = r.set; set = v }

abbrev pub made_next : ℕ → Reading → Reading
made_next h r = record r { made = r.made + 1; last = last_after r.last h (r.made + 1) }

abbrev pub fetched_next : ℕ → Bool → Reading → Reading
fetched_next i got r = record r { place = i; got = got }

-- A compare-exchange of nil, which is in register 2, by a box is a make, and one of a box is a
-- drop. A get that is followed by a comparison is a see, and one that is followed by the get of an
-- id a take.
abbrev pub deeds_from : ℕ → Reading → List Command → List Deed
deeds_from t r [] = []
deeds_from t r (commands.Set d v ∷ ks) = deeds_from t (set_next v r) ks
deeds_from t r (commands.Cas s i a v ∷ ks) =
    if a == 2
    then Make t r.made (h_of v) i r.before ∷ deeds_from t (made_next (h_of v) r) ks
    else Drop t (r.last (h_of a) - 1) (h_of a) i ∷ deeds_from t r ks
deeds_from t r (commands.Same a b ∷ ks) =
    See t (r.last (h_of b) - 1) (h_of b) r.place ∷ deeds_from t r ks
deeds_from t r (commands.Swap s i v ∷ ks) = Evict i ∷ deeds_from t (fetched_next i false r) ks
deeds_from t r (commands.Get d s i ∷ ks) =
    if d == 1 then deeds_from t (fetched_next i true r) ks else
    if (d == 2) && r.got then Take r.place ∷ deeds_from t r ks else deeds_from t r ks
deeds_from t r (k ∷ ks) = deeds_from t r ks

abbrev pub deeds_of : ℕ → List Command → List Deed
deeds_of t ks = deeds_from t nothing_read ks
