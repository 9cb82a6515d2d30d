-- Two graphs of one thread that are one up to the names of their objects.
use Rattle.std.specs.Prelude.{ℕ, ◌≡◌, Bool, true, map}
use Rattle.block_store.specs.declared.Name.{Name}
use Rattle.block_store.specs.declared.Value.{Value}
use Rattle.block_store.specs.declared.Value.TheVariants.{Nil, Int, Ref}
use Rattle.never_heap.specs.Graphs.{Graph, Object, field_of, has_name, object_of, register_of}

-- a value, and an object, where each name is replaced
abbrev pub renamed : (Name → Name) → Value → Value
renamed to Nil = Nil
renamed to (Int n) = Int n
renamed to (Ref a) = Ref (to a)

abbrev pub renamed_object : (Name → Name) → Object → Object
renamed_object to o = record { kind = o.kind; fields = map (renamed to) o.fields }

-- A set of names has all that the registers reach (`roots`, `closed`). Each of them has a name in
-- the other graph, no two the same (`apart`). Under these names registers are equal, and objects
-- have the same kind, the same length and the same fields.
pub record AreOneUpToNames (g z : Graph) : Type 0 where
  pub reached : Name → Bool
  pub to : Name → Name
  pub roots : (r : ℕ) (a : Name) → register_of g 0 r ≡ Ref a → reached a ≡ true
  pub closed : (b a : Name) (i : ℕ) → reached b ≡ true → field_of (object_of g b) i ≡ Ref a
      → reached a ≡ true
  pub apart : (a b : Name) → reached a ≡ true → reached b ≡ true → to a ≡ to b → a ≡ b
  pub registers : (r : ℕ) → register_of z 0 r ≡ renamed to (register_of g 0 r)
  pub objects : (a : Name) → reached a ≡ true
      → object_of z (to a) ≡ renamed_object to (object_of g a)
  pub here : (a : Name) → reached a ≡ true → has_name g a ≡ true
  pub there : (a : Name) → reached a ≡ true → has_name z (to a) ≡ true
