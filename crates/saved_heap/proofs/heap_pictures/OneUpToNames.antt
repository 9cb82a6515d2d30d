-- What is built of a picture is the picture up to names, and names follow one another.
use Rattle.std.proofs.Common.{◌≡◌, ℕ, zero, suc, ◌-◌, ◌<◌, ◌≤◌, Bool, true, ◌&&◌, leb, List, [], ◌∷◌, length, map, get_or, refl, sym, ap, ◌∙◌, subst, arith}
use Rattle.std.proofs.lemmas.Bool.{and_parts, and_from}
use Rattle.block_store.specs.declared.Config.{Config}
use Rattle.block_store.specs.declared.Name.{Name}
use Rattle.block_store.specs.declared.Value.{Value}
use Rattle.block_store.specs.declared.Value.TheVariants.{Nil, Int, Ref}
use Rattle.never_heap.specs.Graphs.{Graph, Object, Array, field_of, has_name, nil_object, no_object, object_of, register_of, start_graph}
use Rattle.saved_heap.specs.heap_pictures.Pictures.{Content, are_within, graph_of, is_item, is_sound, is_within}
use Rattle.saved_heap.specs.heap_pictures.Plans.{graph_after, plan_of}
use Rattle.saved_heap.specs.heap_pictures.UpToNames.{AreOneUpToNames, renamed, renamed_object}
use Rattle.saved_heap.proofs.heap_pictures.Lists.{all_at, get_map, length_map}
use Rattle.saved_heap.proofs.heap_pictures.Building.{Sound, built, less_one, moved, moved_object, moved_value, name_is, named_parts, object_is, plan_builds, sound_is, table}

-- ---- names follow one another

abbrev both : (Name → Bool) → (Name → Bool) → (Name → Name) → Name → Bool
both f s to a = f a && s (to a)

renamed_twice : (f s : Name → Name) (v : Value) → renamed s (renamed f v) ≡ renamed (λ a. s (f a)) v
renamed_twice f s Nil = refl
renamed_twice f s (Int n) = refl
renamed_twice f s (Ref a) = refl

fields_twice : (f s : Name → Name) (vs : List Value) → map (renamed s) (map (renamed f) vs) ≡ map (renamed (λ a. s (f a))) vs
fields_twice f s [] = refl
fields_twice f s (v ∷ vs) = (λ i. renamed_twice f s v i ∷ fields_twice f s vs i)

pub follow : (g h z : Graph) → AreOneUpToNames g h → AreOneUpToNames h z → AreOneUpToNames g z
follow g h z one two = record {
  reached = both one.reached two.reached one.to;
  to = λ a. two.to (one.to a);
  roots = λ r a is. and_from (one.reached a) (two.reached (one.to a)) (one.roots r a is)
      (two.roots r (one.to a) (one.registers r ∙ ap (renamed one.to) is));
  closed = λ b a i reached is.
      let parts = and_parts (one.reached b) (two.reached (one.to b)) reached in
      let there : field_of (object_of h (one.to b)) i ≡ Ref (one.to a) =
      ap (λ (o : Object). field_of o i) (one.objects b parts.0)
      ∙ get_map (renamed one.to) Nil (object_of g b).fields i ∙ ap (renamed one.to) is in
      and_from (one.reached a) (two.reached (one.to a)) (one.closed b a i parts.0 is)
      (two.closed (one.to b) (one.to a) i parts.1 there);
  apart = λ a b ra rb same.
      let pa = and_parts (one.reached a) (two.reached (one.to a)) ra in
      let pb = and_parts (one.reached b) (two.reached (one.to b)) rb in
      one.apart a b pa.0 pb.0 (two.apart (one.to a) (one.to b) pa.1 pb.1 same);
  registers = λ r. two.registers r ∙ ap (renamed two.to) (one.registers r) ∙ renamed_twice one.to two.to (register_of g 0 r);
  objects = λ a reached.
      let parts = and_parts (one.reached a) (two.reached (one.to a)) reached in
      two.objects (one.to a) parts.1 ∙ ap (renamed_object two.to) (one.objects a parts.0)
      ∙ ap (λ fs. record { kind = (object_of g a).kind; fields = fs }) (fields_twice one.to two.to (object_of g a).fields);
  here = λ a reached. one.here a (and_parts (one.reached a) (two.reached (one.to a)) reached).0;
  there = λ a reached. two.there (one.to a) (and_parts (one.reached a) (two.reached (one.to a)) reached).1;
}

-- ---- pictures are built

moved_apart : (a b : Name) → moved a ≡ moved b → a ≡ b
moved_apart a b same =
    sym (ap (λ i. record { thread = a.thread; serial = i }) (less_one a.serial))
    ∙ ap (λ (m : Name). record { thread = m.thread; serial = m.serial - 1 }) same
    ∙ ap (λ i. record { thread = b.thread; serial = i }) (less_one b.serial)

abbrev is_name : ℕ → Name → Bool
is_name n a = is_within n (Ref a)

module _ (sh : Object) (p : Content) (s : Sound p) where
  abbrev n : ℕ
  n = length p.objects

  within_at : (vs : List Value) (i : ℕ) (a : Name) → are_within n vs ≡ true → get_or vs i Nil ≡ Ref a → is_name n a ≡ true
  within_at vs i a all is = subst (λ v. is_within n v ≡ true) is (all_at (is_within n) vs i Nil refl all)

  item_at : (k : ℕ) → are_within n (get_or p.objects k no_object).fields ≡ true
  item_at k =
      let o = get_or p.objects k no_object in
      (and_parts (leb (length o.fields) 65535) (are_within n o.fields) (all_at (is_item n) p.objects k no_object refl s.objects)).1

  abbrev there_now : List Object
  there_now = table n ∷ map moved_object p.objects

  -- an object of the picture, and the same among those that were built
  object_here : (k : ℕ) → object_of (graph_of p) (record { thread = 0; serial = suc k }) ≡ get_or p.objects k no_object
  object_here k = object_is p.registers (nil_object Array 0) p.objects k

  object_there : (k : ℕ) → object_of (built sh p) (record { thread = 0; serial = suc (suc k) }) ≡ moved_object (get_or p.objects k no_object)
  object_there k =
      object_is (map moved_value p.registers) sh there_now (suc k) ∙ get_map moved_object no_object p.objects k

  -- a name of the picture is that of an object
  by_number : (P : Name → Type 0) → ((k : ℕ) → k < n → P (record { thread = 0; serial = suc k })) → (a : Name) → is_name n a ≡ true → P a
  by_number P each a is = from a.thread a.serial (named_parts n a is)
    where
      from : (t x : ℕ) → (t ≡ 0) × (1 ≤ x) × (x ≤ n) → P (record { thread = t; serial = x })
      from t zero parts = absurd (omega (arith, parts.1))
      from t (suc k) parts = subst (λ u. P (record { thread = u; serial = suc k })) (sym parts.0) (each k (omega (arith, parts.2)))

  pub built_is_one : AreOneUpToNames (graph_of p) (built sh p)
  built_is_one = record {
    reached = is_name n;
    to = moved;
    roots = λ r a is. within_at p.registers r a s.registers is;
    closed = λ b a i reached is.
        by_number (λ b. field_of (object_of (graph_of p) b) i ≡ Ref a → is_name n a ≡ true)
        (λ k low there. within_at (get_or p.objects k no_object).fields i a (item_at k) (ap (λ (o : Object). field_of o i) (sym (object_here k)) ∙ there)) b reached is;
    apart = λ a b ra rb same. moved_apart a b same;
    registers = λ r. get_map moved_value Nil p.registers r;
    objects = λ a reached.
        by_number (λ a. object_of (built sh p) (moved a) ≡ renamed_object moved (object_of (graph_of p) a))
        (λ k low. object_there k ∙ ap moved_object (sym (object_here k))) a reached;
    here = λ a reached. by_number (λ a. has_name (graph_of p) a ≡ true) (λ k low. name_is p.registers (nil_object Array 0) p.objects k low) a reached;
    there = λ a reached. by_number (λ a. has_name (built sh p) (moved a) ≡ true)
        (λ k low. name_is (map moved_value p.registers) sh there_now (suc k) (let m = length_map moved_object p.objects in omega (arith, low, m))) a reached;
  }

pub pictures_built : (c : Config) (p : Content) → c.threads ≡ 1 → is_sound p ≡ true → AreOneUpToNames (graph_of p) (graph_after (start_graph c) (plan_of p))
pictures_built c p one sound =
    subst (AreOneUpToNames (graph_of p)) (sym (plan_builds c p one sound)) (built_is_one (nil_object Array c.shared) p (sound_is p sound))
