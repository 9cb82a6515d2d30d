-- A walk over a heap gives its picture.
use Rattle.std.proofs.Common.{◌≡◌, ℕ, zero, suc, ◌+◌, ◌^◌, ◌<◌, ◌≤◌, ◌⊎◌, Bool, true, false, ◌&&◌, eqb, leb, ltb, List, [], ◌∷◌, ◌++◌, length, map, get_or, inl, inr, refl, sym, ap, ◌∙◌, subst, arith}
use Rattle.std.specs.List.{list_all}
use Rattle.std.proofs.lemmas.Bool.{and_parts, cases_lt, eq-eqb, eqb-true, le-leb, lt-ltb, ltb-true, and_from}
use Rattle.std.proofs.lemmas.List.{get_or_past, map_push, get_or_default}
use Rattle.block_store.specs.declared.Name.{Name}
use Rattle.block_store.specs.declared.Value.{Value}
use Rattle.block_store.specs.declared.Value.TheVariants.{Nil, Int, Ref}
use Rattle.never_heap.specs.Graphs.{Graph, Object, Array, field_of, has_name, mutator_at, nil_object, no_object, object_of, register_of}
use Rattle.never_heap.specs.Histories.{replay}
use Rattle.heap_system.specs.Machines.{Run}
use Rattle.saved_heap.specs.declared.heap_pictures.picture.Item.{Item}
use Rattle.saved_heap.specs.heap_pictures.Pictures.{Content, are_within, graph_of, is_item, is_sound, is_within, view}
use Rattle.saved_heap.specs.heap_pictures.UpToNames.{AreOneUpToNames, renamed, renamed_object}
use Rattle.saved_heap.proofs.heap_pictures.Building.{name_is, object_is}
use Rattle.saved_heap.proofs.heap_pictures.Lists.{get_map, length_map, length_front}
use Rattle.control_heap.specs.Controls.{Control}
use Rattle.control_heap.specs.Images.{HasRun, Image, image_of}
use Rattle.control_heap.specs.Seen.{HasSeen, IsSeen, IsSeenAt, value_seen}
use Rattle.control_heap.specs.declared.control.seen.Seen.{Seen}
use Rattle.control_heap.proofs.SeenRead.{exists_in, one_name, sixteen_in}
use Rattle.saved_heap.specs.SearchOrder.{AreInTurn, AreSearched, IsInOrder, named_after}
use Rattle.saved_heap.specs.Walks.{AreFieldsOf, AreLow, AreRegisters, Grows, HasNumber, HasNumberAt, HasRead, IsEmpty, IsFound, IsItem, IsReading, IsWalk, Reads, ReadsItem, State, Walks, block_seen, is_whole, number_at, numbered, numbered_at}
use Rattle.saved_heap.specs.Renewals.{IsPictureOf}
use Rattle.saved_heap.proofs.Walking.{Each, each_at, each_push, grows_on, push_low, some_on, values_on}

abbrev pub no_seen : Seen
no_seen = record { value = Nil; block = 0 }

abbrev positive : ℕ → Bool
positive n = ltb 0 n

-- a number that is not 0 is that of a place
suc_of : (n : ℕ) → 0 < n → (k : ℕ) × (n ≡ suc k)
suc_of zero some = absurd (omega (arith, some))
suc_of (suc k) some = (k, refl)

module _ (h : Image) (r : Run) (st : HasRun h r) (w : State) (walk : IsWalk r w) where
  abbrev g : Graph
  g = replay h.config r.order

  -- the number of an object
  abbrev number_of : Name → ℕ
  number_of a = number_at w (r.names.at a 0)

  abbrev to : Name → Name
  to a = record { thread = 0; serial = number_of a }

  abbrev reached : Name → Bool
  reached a = r.names.kept a && positive (number_of a)

  -- a value that is seen and has a number
  seen_value : (v : Value) (x : ℕ) → IsSeenAt r v x → HasNumberAt w v x → numbered_at w v x ≡ renamed to v
  seen_value Nil x seen some = refl
  seen_value (Int n) x seen some = refl
  seen_value (Ref a) x seen some = ap (λ y. Ref (record { thread = 0; serial = number_at w y })) seen.1

  seen_reached : (v : Value) (x : ℕ) (a : Name) → IsSeenAt r v x → HasNumberAt w v x → v ≡ Ref a → reached a ≡ true
  seen_reached v x a seen some is =
      let kept : IsSeenAt r (Ref a) x = subst (λ u. IsSeenAt r u x) is seen in
      let number : 0 < number_at w x = subst (λ u. HasNumberAt w u x) is some in
      and_from (r.names.kept a) (positive (number_of a)) kept.0
      (lt-ltb 0 (number_of a) (subst (λ y. 0 < number_at w y) kept.1 number))

  low_number : (x : ℕ) → 0 < number_at w x → number_at w x ≤ length w.found
  low_number x some =
      let n = suc_of (number_at w x) some in
      let p = walk.places x n.0 no_seen n.1 in
      let low = p.0 in let e = n.1 in omega (arith, low, e)

  -- the reference that was found for a name
  pub record Place (a : Name) : Type 0 where
    pub place : ℕ
    pub number : number_of a ≡ suc place
    pub low : place < length w.found
    pub block : block_seen (get_or w.found place no_seen) ≡ r.names.at a 0
    pub seen : IsSeenAt r (Ref a) (block_seen (get_or w.found place no_seen))

  place_of : (a : Name) → reached a ≡ true → Place a
  place_of a is =
      let parts = and_parts (r.names.kept a) (positive (number_of a)) is in
      let n = suc_of (number_of a) (ltb-true 0 (number_of a) parts.1) in
      let p = walk.places (r.names.at a 0) n.0 no_seen n.1 in
      record { place = n.0; number = n.1; low = p.0; block = p.1; seen = (parts.0, p.1) }

  apart_is : (a b : Name) → reached a ≡ true → reached b ≡ true → to a ≡ to b → a ≡ b
  apart_is a b ra rb same =
      let pa = place_of a ra in
      let pb = place_of b rb in
      let numbers : number_of a ≡ number_of b = ap (λ (n : Name). n.serial) same in
      let places : pa.place ≡ pb.place = (let x = pa.number in let y = pb.number in omega (arith, x, y, numbers)) in
      one_name st.heap r st.stands (block_seen (get_or w.found pb.place no_seen)) a b (subst (λ k. IsSeenAt r (Ref a) (block_seen (get_or w.found k no_seen))) places pa.seen) pb.seen

  -- lists of values
  seen_values : (xs : List Seen) → Each (IsSeen r) xs → Each (HasNumber w) xs → map (numbered w) xs ≡ map (renamed to) (map value_seen xs)
  seen_values [] seen some = refl
  seen_values (x ∷ xs) seen some = (λ i. seen_value x.value x.block seen.0 some.0 i ∷ seen_values xs seen.1 some.1 i)

  value_at : (xs : List Seen) (i : ℕ) → get_or (map value_seen xs) i Nil ≡ value_seen (get_or xs i no_seen)
  value_at xs i = get_map value_seen no_seen xs i

  reached_at : (xs : List Seen) (i : ℕ) (a : Name) → Each (IsSeen r) xs → Each (HasNumber w) xs → get_or (map value_seen xs) i Nil ≡ Ref a → reached a ≡ true
  reached_at xs i a seen some is =
      elim (cases_lt i (length xs)) [
        | inl low ↦ seen_reached (get_or xs i no_seen).value (get_or xs i no_seen).block a (each_at (IsSeen r) xs i no_seen low seen) (each_at (HasNumber w) xs i no_seen low some) (sym (value_at xs i) ∙ is)
        | inr high ↦ let m = length_map value_seen xs in let none : get_or (map value_seen xs) i Nil ≡ Nil = get_or_past (map value_seen xs) i Nil (omega (arith, high, m)) in absurd (nil_is a (sym none ∙ is))
      ]
    where
      nil_is : (a : Name) → Nil ≡ Ref a → ⊥
      nil_is a e = absurd cc

  within_one : (v : Value) (x : ℕ) → IsSeenAt r v x → HasNumberAt w v x → is_within (length w.found) (numbered_at w v x) ≡ true
  within_one Nil x seen some = refl
  within_one (Int n) x seen some = lt-ltb n (2 ^ 62) seen
  within_one (Ref a) x seen some =
      and_from (leb 1 (number_at w x)) (leb (number_at w x) (length w.found)) (le-leb 1 (number_at w x) (omega (arith, some)))
      (le-leb (number_at w x) (length w.found) (low_number x some))

  within_all : (xs : List Seen) → Each (IsSeen r) xs → Each (HasNumber w) xs → are_within (length w.found) (map (numbered w) xs) ≡ true
  within_all [] seen some = refl
  within_all (x ∷ xs) seen some =
      and_from (is_within (length w.found) (numbered w x)) (are_within (length w.found) (map (numbered w) xs)) (within_one x.value x.block seen.0 some.0) (within_all xs seen.1 some.1)

  all_items : (n : ℕ) (os : List Object) → ((k : ℕ) → k < length os → is_item n (get_or os k no_object) ≡ true) → list_all (is_item n) os ≡ true
  all_items n [] each = refl
  all_items n (o ∷ os) each =
      and_from (is_item n o) (list_all (is_item n) os) (each 0 (omega arith)) (all_items n os (λ k low. each (suc k) (omega (arith, low))))

  module _ (rs : List Seen) (registers : AreRegisters h rs) (some : Each (HasNumber w) rs) (os : List Object) (all : length os ≡ length w.found)
      (items : (k : ℕ) (d : Seen) (e : Object) → k < length os → IsItem h w (get_or w.found k d) (get_or os k e)) where
    abbrev content : Content
    content = record { registers = map (numbered w) rs; objects = os }

    rs_seen : Each (IsSeen r) rs
    rs_seen = registers.seen r st

    -- the object of a name that was found
    module _ (a : Name) (is : reached a ≡ true) where
      p : Place a
      p = place_of a is

      low : p.place < length os
      low = let x = p.low in omega (arith, x, all)

      item : IsItem h w (get_or w.found p.place no_seen) (get_or os p.place no_object)
      item = items p.place no_seen no_object low

      its : ((get_or os p.place no_object).kind ≡ (object_of g a).kind) × HasSeen r (object_of g a) item.fields
      its = item.seen r a st p.seen

      fields_are : (get_or os p.place no_object).fields ≡ map (renamed to) (object_of g a).fields
      fields_are = item.values ∙ seen_values item.fields its.1.seen item.some ∙ ap (map (renamed to)) its.1.values

      to_is : to a ≡ record { thread = 0; serial = suc p.place }
      to_is = ap (λ n. record { thread = 0; serial = n }) p.number

      object_there : object_of (graph_of content) (to a) ≡ renamed_object to (object_of g a)
      object_there =
          ap (object_of (graph_of content)) to_is
          ∙ object_is (map (numbered w) rs) (nil_object Array 0) os p.place
          ∙ (λ i. record { kind = its.0 i; fields = fields_are i })

      name_there : has_name (graph_of content) (to a) ≡ true
      name_there = ap (has_name (graph_of content)) to_is ∙ name_is (map (numbered w) rs) (nil_object Array 0) os p.place low

      leads : (b : Name) (i : ℕ) → field_of (object_of g a) i ≡ Ref b → reached b ≡ true
      leads b i is = reached_at item.fields i b its.1.seen item.some (ap (λ l. get_or l i Nil) its.1.values ∙ is)

      here : has_name g a ≡ true
      here = exists_in h r st (block_seen (get_or w.found p.place no_seen)) a p.seen

    register_is : (q : ℕ) → get_or (map value_seen rs) q Nil ≡ register_of g 0 q
    register_is q =
        elim (cases_lt q 16) [
          | inl less ↦ value_at rs q ∙ registers.values r q no_seen st less
          | inr high ↦ let m = length_map value_seen rs in
              let l = registers.sixteen in
              let s = sixteen_in h r st in
              get_or_past (map value_seen rs) q Nil (omega (arith, high, m, l))
              ∙ sym (get_or_past (mutator_at g 0).registers q Nil (omega (arith, high, s)))
        ]

    registers_are : (q : ℕ) → get_or (map (numbered w) rs) q Nil ≡ renamed to (register_of g 0 q)
    registers_are q =
        ap (λ l. get_or l q Nil) (seen_values rs rs_seen some)
        ∙ get_map (renamed to) Nil (map value_seen rs) q
        ∙ ap (renamed to) (register_is q)

    pub one : AreOneUpToNames g (graph_of content)
    one = record {
      reached = reached;
      to = to;
      roots = λ q a is. reached_at rs q a rs_seen some (register_is q ∙ is);
      closed = λ b a i is there. leads b is a i there;
      apart = apart_is;
      registers = registers_are;
      objects = λ a is. object_there a is;
      here = λ a is. here a is;
      there = λ a is. name_there a is;
    }

    -- the fields of an item are seen, since its reference was found
    item_sound : (k : ℕ) → k < length os → is_item (length os) (get_or os k no_object) ≡ true
    item_sound k less =
        let item = items k no_seen no_object less in
        let found = each_at (IsFound r) w.found k no_seen (omega (arith, less, all)) walk.found in
        let its = item.seen r found.0 st found.2 in
        let few = item.few in
        let m = length_map (numbered w) item.fields in
        let f = ap length item.values in
        subst (λ n. is_item n (get_or os k no_object) ≡ true) (sym all)
        (and_from (leb (length (get_or os k no_object).fields) 65535) (are_within (length w.found) (get_or os k no_object).fields)
        (le-leb (length (get_or os k no_object).fields) 65535 (omega (arith, few, m, f)))
        (ap (are_within (length w.found)) item.values ∙ within_all item.fields its.1.seen item.some))

    pub sound : is_sound content ≡ true
    sound =
        let m = length_map (numbered w) rs in
        let l = registers.sixteen in
        let n = length os in
        and_from (eqb (length (map (numbered w) rs)) 16 && are_within n (map (numbered w) rs)) (list_all (is_item n) os)
        (and_from (eqb (length (map (numbered w) rs)) 16) (are_within n (map (numbered w) rs))
        (eq-eqb (length (map (numbered w) rs)) 16 (omega (arith, m, l)))
        (subst (λ k. are_within k (map (numbered w) rs) ≡ true) (sym all) (within_all rs rs_seen some)))
        (all_items n os item_sound)

-- ---- the loop over what was found

item_on : (h : Image) (w v : State) (s : Seen) (o : Object) → Grows w v → IsItem h w s o → IsItem h v s o
item_on h w v s o g item = record {
  fields = item.fields;
  few = item.few;
  some = some_on w v g item.fields item.some;
  values = item.values ∙ values_on w v g item.fields item.some;
  seen = item.seen;
}

at_end : {A : Type 0} (xs : List A) (x d : A) → get_or (xs ++ x ∷ []) (length xs) d ≡ x
at_end [] x d = refl
at_end (y ∷ xs) x d = at_end xs x d

-- one object more of a search
search_on : (k n m l : ℕ) (os : List Object) (o : Object) → k + length os < m → AreInTurn m o.fields → named_after m o.fields ≡ l → AreSearched k n os m
    → AreSearched k n (os ++ o ∷ []) l
search_on k n m l [] o low turn named e =
    (omega (arith, low, e), subst (λ x. AreInTurn x o.fields) (sym e) turn, ap (λ x. named_after x o.fields) e ∙ named)
search_on k n m l (p ∷ os) o low turn named all = (all.0, all.1, search_on (suc k) (named_after n p.fields) m l os o (omega (arith, low)) turn named all.2)

pub item_walked : (h : Image) (w v u : State) (os : List Object) (s : Seen) (o : Object) → Walks h w v os → length os < length v.found
    → s ≡ get_or v.found (length os) s → ReadsItem h v u s o → Walks h w u (os ++ o ∷ [])
item_walked h w v u os s o all low is read = record {
  few = let l = read.grows.longer in let m = length_front os o in omega (arith, low, l, m);
  items = λ k d e less.
      elim (cases_lt k (length os)) [
        | inl before ↦ let old = item_on h v u (get_or v.found k d) (get_or os k e) read.grows (all.items k d e before) in
            let few = all.few in
            subst (λ x. IsItem h u x (get_or (os ++ o ∷ []) k e)) (sym (read.grows.found k d (omega (arith, before, few))))
            (subst (λ y. IsItem h u (get_or v.found k d) y) (sym (push_low os o e k before)) old)
        | inr after ↦ let m = length_front os o in
            let last : k ≡ length os = omega (arith, less, after, m) in
            let place : get_or u.found k d ≡ s = read.grows.found k d (omega (arith, low, last)) ∙ ap (λ i. get_or v.found i d) last ∙ other d in
            let value : get_or (os ++ o ∷ []) k e ≡ o = ap (λ i. get_or (os ++ o ∷ []) i e) last ∙ at_end os o e in
            subst (λ x. IsItem h u x (get_or (os ++ o ∷ []) k e)) (sym place) (subst (λ y. IsItem h u s y) (sym value) read.item)
      ];
  grows = grows_on w v u all.grows read.grows;
  walk = λ r st walk.
      let before = all.walk r st walk in
      let found = each_at (IsFound r) v.found (length os) s low before.found in
      read.walk r st (subst (IsFound r) (sym is) found) before;
  order = λ first.
      let before = all.order first in
      let named = read.order before.0 in
      (named.low, search_on 0 (length w.found) (length v.found) (length u.found) os o (omega (arith, low)) named.turn named.named before.1);
}
  where
    other : (d : Seen) → get_or v.found (length os) d ≡ s
    other d = get_or_default v.found (length os) d s low ∙ sym is

-- one item more
pub walked_on : (h : Image) (w v u : State) (xs zs : List Item) (x : Item) (n : ℕ) (s : Seen) → length xs ≡ n → n < length v.found
    → s ≡ get_or v.found n s → zs ≡ xs ++ x ∷ [] → Walks h w v (map view xs) → ReadsItem h v u s (view x) → Walks h w u (map view zs)
walked_on h w v u xs zs x n s long low is last all read =
    let count : length (map view xs) ≡ n = length_map view xs ∙ long in
    let more : map view zs ≡ map view xs ++ view x ∷ [] = ap (map view) last ∙ map_push view xs x in
    subst (Walks h w u) (sym more)
    (item_walked h w v u (map view xs) s (view x) all (omega (arith, count, low)) (is ∙ sym (ap (λ k. get_or v.found k s) count)) read)

-- the object of a reference, with its fields as they were read
pub item_read : (h : Image) (w v : State) (s : Seen) (o : Object) (xs : List Seen) → length xs ≤ 65535 → Reads w v xs o.fields → AreFieldsOf h s o xs → ReadsItem h w v s o
item_read h w v s o xs few read are = record {
  item = record { fields = xs; few = few; some = read.some; values = read.values; seen = are };
  grows = read.grows;
  walk = λ r st found walk. read.walk r (are r found.0 st found.2).1.seen walk;
  order = read.order;
}

-- ---- the registers

abbrev pub AreFirst : Image → ℕ → List Seen → Type 0
AreFirst h n xs =
    (r : Run) (q : ℕ) (d : Seen) → HasRun h r → q < n
    → value_seen (get_or xs q d) ≡ register_of (replay h.config r.order) 0 q

-- one register more
pub registers_on : (h : Image) (xs zs : List Seen) (x : Seen) (n : ℕ) → length xs ≡ n → zs ≡ xs ++ x ∷ [] → AreFirst h n xs
    → ((r : Run) → HasRun h r → x.value ≡ register_of (replay h.config r.order) 0 n) → AreFirst h (n + 1) zs
registers_on h xs zs x n long last all one r q d st low =
    elim (cases_lt q n) [
      | inl less ↦ ap (λ l. value_seen (get_or l q d)) last ∙ ap value_seen (push_low xs x d q (omega (arith, less, long))) ∙ all r q d st less
      | inr more ↦ let place : q ≡ n = omega (arith, low, more) in
          let end : q ≡ length xs = omega (arith, place, long) in
          ap (λ l. value_seen (get_or l q d)) last ∙ ap (λ k. value_seen (get_or (xs ++ x ∷ []) k d)) end ∙ ap value_seen (at_end xs x d)
          ∙ one r st ∙ sym (ap (register_of (replay h.config r.order) 0) place)
    ]

pub seen_on : (h : Image) (xs zs : List Seen) (x : Seen) → zs ≡ xs ++ x ∷ [] → ((r : Run) → HasRun h r → Each (IsSeen r) xs)
    → ((r : Run) → HasRun h r → IsSeen r x) → (r : Run) → HasRun h r → Each (IsSeen r) zs
seen_on h xs zs x last all one r st = subst (Each (IsSeen r)) (sym last) (each_push (IsSeen r) xs x (all r st) (one r st))

-- ---- the whole walk

no_walk : (r : Run) (w : State) → IsEmpty w → IsWalk r w
no_walk r w empty = record {
  found = subst (Each (IsFound r)) (sym empty.found) tt;
  numbers = λ k d low. let e = ap length empty.found in absurd (omega (arith, low, e));
  places = λ x k d is. let z = empty.numbers x in absurd (omega (arith, z, is));
}

module _ (i : Image) (ys : List Value) (w : State) (os : List Object) (all : HasRead i ys w os) (end : length os ≡ length w.found) where
  abbrev whole : Content
  whole = record { registers = ys; objects = os }

  in_run : (r : Run) → HasRun i r → (is_sound whole ≡ true) × AreOneUpToNames (replay i.config r.order) (graph_of whole)
  in_run r st =
      let read = all.read in
      let walked = all.walked in
      let walk = walked.walk r st (read.walk r (all.registers.seen r st) (no_walk r all.start all.empty)) in
      let some = some_on all.first w walked.grows all.seen read.some in
      let same : ys ≡ map (numbered w) all.seen = read.values ∙ values_on all.first w walked.grows all.seen read.some in
      subst (λ l. (is_sound (record { registers = l; objects = os }) ≡ true) × AreOneUpToNames (replay i.config r.order) (graph_of (record { registers = l; objects = os }))) (sym same)
      (sound i r st w walk all.seen all.registers some os end walked.items, one i r st w walk all.seen all.registers some os end walked.items)

  pub pictured : (h : Control) → image_of h ≡ i → IsPictureOf h whole
  pictured h same r stands =
      let parts = in_run r (record { heap = h; same = same; stands = stands }) in
      (parts.0, subst (λ (y : Image). AreOneUpToNames (replay y.config r.order) (graph_of whole)) (sym same) parts.1)

  pub sound_whole : is_sound whole ≡ true
  sound_whole = (in_run all.run all.has_run).0

  pub ordered : IsInOrder whole
  ordered =
      let zero_found : length all.start.found ≡ 0 = ap length all.empty.found in
      let low : AreLow all.start = λ x. (let z = all.empty.numbers x in omega (arith, z)) in
      let first = all.read.order low in
      let rest = all.walked.order first.low in
      let turn : AreInTurn 0 ys = subst (λ n. AreInTurn n ys) zero_found first.turn in
      let named : length all.first.found ≡ named_after 0 ys = sym first.named ∙ ap (λ n. named_after n ys) zero_found in
      (turn, subst (λ m. AreSearched 0 (named_after 0 ys) os m) (sym end) (subst (λ n. AreSearched 0 n os (length w.found)) named rest.1))

-- ---- a reading

is_read : (i : Image) (ys : List Value) (w : State) (os : List Object) → 0 < length ys → IsReading i ys w os → HasRead i ys w os
is_read i [] w os some reading = absurd (omega (arith, some))
is_read i (y ∷ ys) w os some reading = reading

as_reading : (i : Image) (ys : List Value) (w : State) (os : List Object) → HasRead i ys w os → IsReading i ys w os
as_reading i [] w os all = tt
as_reading i (y ∷ ys) w os all = all

pub no_reading : (i : Image) (ys : List Value) (w : State) (os : List Object) → ys ≡ [] → IsReading i ys w os
no_reading i ys w os none = subst (λ l. IsReading i l w os) (sym none) tt

-- the registers are read
pub begun : (i : Image) (run : Run) → HasRun i run → (start first : State) (xs zs : List Seen) (ys : List Value) (os : List Object) → IsEmpty start → AreRegisters i xs → zs ≡ xs
    → Reads start first zs ys → os ≡ [] → IsReading i ys first os
begun i run has start first xs zs ys os empty registers same read none = as_reading i ys first os (record {
  run = run;
  has_run = has;
  start = start;
  empty = empty;
  first = first;
  seen = xs;
  registers = registers;
  read = subst (λ l. Reads start first l ys) same read;
  walked = subst (Walks i first first) (sym none) (record {
    few = omega arith;
    items = λ k d e low. absurd (omega (arith, low));
    grows = record { longer = omega arith; found = λ k d low. refl; numbers = λ x some. refl };
    walk = λ r st walk. walk;
    order = λ low. (low, refl);
  });
})

-- some more objects are read
pub read_on : (i : Image) (ys : List Value) (w v : State) (os zs : List Object) → 0 < length ys → IsReading i ys w os
    → ((first : State) → Walks i first w os → Walks i first v zs) → IsReading i ys v zs
read_on i ys w v os zs some reading more =
    let all = is_read i ys w os some reading in
    as_reading i ys v zs (record {
      run = all.run;
      has_run = all.has_run;
      start = all.start;
      empty = all.empty;
      first = all.first;
      seen = all.seen;
      registers = all.registers;
      read = all.read;
      walked = more all.first all.walked;
    })

-- what is whole has registers, and no objects are left
whole_is : (n k m : ℕ) → is_whole n k m ≡ true → (0 < n) × (k ≡ m)
whole_is n k m is =
    let parts = and_parts (ltb 0 n) (eqb k m) is in
    (ltb-true 0 n parts.0, eqb-true k m parts.1)

pub end_of : (i : Image) (ys : List Value) (w : State) (os : List Object) (n : ℕ) → length os ≡ n → IsReading i ys w os
    → is_whole (length ys) n (length w.found) ≡ true → HasRead i ys w os × (length os ≡ length w.found)
end_of i ys w os n long reading is =
    let parts = whole_is (length ys) n (length w.found) is in
    (is_read i ys w os parts.0 reading, long ∙ parts.1)

-- where objects are left, as many were read as were asked for
pub left_over : (i : Image) (ys : List Value) (w : State) (os : List Object) (n a b : ℕ) → length os ≡ n → 0 < length ys → IsReading i ys w os
    → (n ≡ a + b) ⊎ (length w.found ≤ n) → is_whole (length ys) n (length w.found) ≡ false → n ≡ a + b
left_over i ys w os n a b long some reading how not =
    let all = is_read i ys w os some reading in
    elim how [
      | inl e ↦ e
      | inr more ↦ let few = all.walked.few in
          let e : n ≡ length w.found = omega (arith, long, few, more) in
          absurd (not_both (sym not ∙ and_from (ltb 0 (length ys)) (eqb n (length w.found)) (lt-ltb 0 (length ys) some) (eq-eqb n (length w.found) e)))
    ]
  where
    not_both : false ≡ true → ⊥
    not_both e = cc
