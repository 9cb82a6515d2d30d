-- The commands of a plan build what the picture shows.
use Rattle.std.proofs.Common.{◌≡◌, ℕ, zero, suc, ◌+◌, ◌-◌, ◌<◌, ◌≤◌, true, false, ◌&&◌, eqb, leb, cond, List, [], ◌∷◌, ◌++◌, length, map, get_or, set, replicate, refl, sym, ap, ◌∙◌, subst, append_assoc, arith}
use Rattle.std.specs.List.{list_all}
use Rattle.std.proofs.lemmas.Bool.{and_parts, eqb-true, leb-true, le-leb, lt-ltb, ne_eqb}
use Rattle.std.proofs.lemmas.List.{get_or-set_same, get_or-set_other, length-set, length-append, append-nil}
use Rattle.block_store.specs.declared.Config.{Config}
use Rattle.block_store.specs.declared.Name.{Name}
use Rattle.block_store.specs.declared.Value.{Value}
use Rattle.block_store.specs.declared.Value.TheVariants.{Nil, Int, Ref}
use Rattle.never_heap.specs.declared.Command.{Command}
use Rattle.never_heap.specs.declared.Command.TheVariants as commands
use Rattle.never_heap.specs.Graphs.{Graph, Object, ObjectKind, Record, Array, field_of, has_name, nil_object, nils, no_object, object_of, set_field, shared_name, start_graph, start_mutator, with_field}
use Rattle.never_heap.specs.Steps.{step, made}
use Rattle.saved_heap.specs.heap_pictures.Pictures.{Content, are_within, is_item, is_sound, is_within, lone_graph}
use Rattle.saved_heap.specs.heap_pictures.Plans.{all_loads, fills, graph_after, load, loads, make, make_of, makes, plan_of, stores}
use Rattle.saved_heap.specs.heap_pictures.UpToNames.{renamed, renamed_object}
use Rattle.saved_heap.proofs.heap_pictures.Lists.{at_front, set_front, length_front, length_map}

-- ---- objects by their names

not_zero : (m : ℕ) → eqb (suc m) 0 ≡ false
not_zero m = ne_eqb (suc m) 0 (λ e. absurd (omega (arith, e)))

pub less_one : (m : ℕ) → suc m - 1 ≡ m
less_one m = omega arith

-- the object of serial m + 1
pub object_is : (rs : List Value) (sh : Object) (os : List Object) (m : ℕ) → object_of (lone_graph rs sh os) (record { thread = 0; serial = suc m }) ≡ get_or os m no_object
object_is rs sh os m =
    ap (λ b. cond b (cond (eqb 0 1) sh no_object) (get_or os (suc m - 1) no_object)) (not_zero m)
    ∙ ap (λ i. get_or os i no_object) (less_one m)

pub field_is : (rs : List Value) (sh : Object) (os : List Object) (m i : ℕ) (v : Value)
    → with_field (lone_graph rs sh os) (record { thread = 0; serial = suc m }) i v ≡ lone_graph rs sh (set os m (set_field (get_or os m no_object) i v))
field_is rs sh os m i v =
    let g = lone_graph rs sh os in
    let a : Name = record { thread = 0; serial = suc m } in
    ap (λ b. cond b (cond (eqb 0 1) (lone_graph rs (set_field sh i v) os) g) (lone_graph rs sh (set os (suc m - 1) (set_field (object_of g a) i v)))) (not_zero m)
    ∙ ap (λ o. lone_graph rs sh (set os (suc m - 1) (set_field o i v))) (object_is rs sh os m)
    ∙ ap (λ j. lone_graph rs sh (set os j (set_field (get_or os m no_object) i v))) (less_one m)

pub name_is : (rs : List Value) (sh : Object) (os : List Object) (m : ℕ) → m < length os → has_name (lone_graph rs sh os) (record { thread = 0; serial = suc m }) ≡ true
name_is rs sh os m low =
    ap (λ b. cond b (eqb 0 1) (leb (suc m) (length os))) (not_zero m)
    ∙ le-leb (suc m) (length os) (omega (arith, low))

-- ---- the table

-- the name of the table
abbrev pub table_name : Name
table_name = record { thread = 0; serial = 1 }

-- the name that an object of the picture gets
abbrev pub moved : Name → Name
moved a = record { thread = a.thread; serial = suc a.serial }

abbrev pub moved_value : Value → Value
moved_value v = renamed moved v

-- references to n objects, from number k on
abbrev pub refs : ℕ → ℕ → List Value
refs k zero = []
refs k (suc n) = Ref (record { thread = 0; serial = suc k }) ∷ refs (suc k) n

abbrev pub tabled : List Value → Object
tabled vs = record { kind = Array; fields = vs }

-- the table of n objects
abbrev pub table : ℕ → Object
table n = tabled (Nil ∷ refs 1 n)

pub refs_long : (k n : ℕ) → length (refs k n) ≡ n
refs_long k zero = refl
refs_long k (suc n) = ap suc (refs_long (suc k) n)

pub refs_at : (k n i : ℕ) → i < n → get_or (refs k n) i Nil ≡ Ref (record { thread = 0; serial = suc (k + i) })
refs_at k zero i low = absurd (omega (arith, low))
refs_at k (suc n) zero low = ap (λ s. Ref (record { thread = 0; serial = suc s })) (omega arith)
refs_at k (suc n) (suc i) low =
    let same : suc k + i ≡ k + suc i = omega arith in
    refs_at (suc k) n i (omega (arith, low)) ∙ ap (λ s. Ref (record { thread = 0; serial = suc s })) same

pub refs_more : (k n : ℕ) → refs k n ++ Ref (record { thread = 0; serial = suc (k + n) }) ∷ [] ≡ refs k (suc n)
refs_more k zero = ap (λ s. Ref (record { thread = 0; serial = suc s }) ∷ []) (omega arith)
refs_more k (suc n) =
    let same : k + suc n ≡ suc k + n = omega arith in
    ap (λ s. Ref (record { thread = 0; serial = suc k }) ∷ refs (suc k) n ++ Ref (record { thread = 0; serial = suc s }) ∷ []) same
    ∙ ap (λ l. Ref (record { thread = 0; serial = suc k }) ∷ l) (refs_more (suc k) n)

-- what the table has at the number of an object
pub table_at : (n s : ℕ) → 1 ≤ s → s ≤ n → get_or (Nil ∷ refs 1 n) s Nil ≡ Ref (record { thread = 0; serial = suc s })
table_at n zero low high = absurd (omega (arith, low))
table_at n (suc j) low high =
    let same : 1 + j ≡ suc j = omega arith in
    refs_at 1 n j (omega (arith, high)) ∙ ap (λ x. Ref (record { thread = 0; serial = suc x })) same

-- ---- commands

pub after_append : (g : Graph) (ks js : List Command) → graph_after g (ks ++ js) ≡ graph_after (graph_after g ks) js
after_append g [] js = refl
after_append g (k ∷ ks) js = after_append (step g 0 k).0 ks js

-- the registers while the plan is done
pub record HasTable (rs : List Value) : Type 0 where
  pub long : length rs ≡ 16
  pub table : get_or rs 1 Nil ≡ Ref table_name

pub table_kept : (rs : List Value) (d : ℕ) (v : Value) → 2 ≤ d → HasTable rs → HasTable (set rs d v)
table_kept rs d v high has =
    let other : (1 ≡ d → ⊥) = λ e. absurd (omega (arith, high, e)) in
    record {
      long = length-set rs d v ∙ has.long;
      table = get_or-set_other rs d 1 v Nil other ∙ has.table;
    }

-- a field of the object in a register is loaded
pub got : (rs : List Value) (sh : Object) (os : List Object) (a : Name) (d s i : ℕ)
    → get_or rs s Nil ≡ Ref a → i < length (object_of (lone_graph rs sh os) a).fields
    → (step (lone_graph rs sh os) 0 (commands.Get d s i)).0 ≡ lone_graph (set rs d (field_of (object_of (lone_graph rs sh os) a) i)) sh os
got rs sh os a d s i holds low = rw (holds, lt-ltb i (length (object_of (lone_graph rs sh os) a).fields) low) refl

-- and stored
pub put : (rs : List Value) (sh : Object) (os : List Object) (a : Name) (s i v : ℕ)
    → get_or rs s Nil ≡ Ref a → i < length (object_of (lone_graph rs sh os) a).fields
    → (step (lone_graph rs sh os) 0 (commands.Put s i v)).0 ≡ with_field (lone_graph rs sh os) a i (get_or rs v Nil)
put rs sh os a s i v holds low = rw (holds, lt-ltb i (length (object_of (lone_graph rs sh os) a).fields) low) refl

-- ---- values

-- what the test of a name says
pub named_parts : (n : ℕ) (a : Name) → is_within n (Ref a) ≡ true → (a.thread ≡ 0) × (1 ≤ a.serial) × (a.serial ≤ n)
named_parts n a within =
    let two = and_parts (eqb a.thread 0 && leb 1 a.serial) (leb a.serial n) within in
    let one = and_parts (eqb a.thread 0) (leb 1 a.serial) two.0 in
    (eqb-true a.thread 0 one.0, leb-true 1 a.serial one.1, leb-true a.serial n two.1)

abbrev pub graph_with : List Value → Object → ℕ → List Object → Graph
graph_with rs sh n os = lone_graph rs sh (table n ∷ os)

loaded_name : (rs : List Value) (sh : Object) (n : ℕ) (os : List Object) (d : ℕ) (a : Name) → HasTable rs → is_within n (Ref a) ≡ true
    → (step (graph_with rs sh n os) 0 (load d (Ref a))).0 ≡ graph_with (set rs d (moved_value (Ref a))) sh n os
loaded_name rs sh n os d a has within =
    let whole = named_parts n a within in
    let long = refs_long 1 n in
    let low : a.serial < length (Nil ∷ refs 1 n) = omega (arith, whole.2, long) in
    got rs sh (table n ∷ os) table_name d 1 a.serial has.table low
    ∙ ap (λ v. graph_with (set rs d v) sh n os) (table_at n a.serial whole.1 whole.2 ∙ ap (λ t. Ref (record { thread = t; serial = suc a.serial })) (sym whole.0))

-- a value is loaded
pub loaded : (rs : List Value) (sh : Object) (n : ℕ) (os : List Object) (d : ℕ) (v : Value) → HasTable rs → is_within n v ≡ true
    → (step (graph_with rs sh n os) 0 (load d v)).0 ≡ graph_with (set rs d (moved_value v)) sh n os
loaded rs sh n os d Nil has within = refl
loaded rs sh n os d (Int k) has within = refl
loaded rs sh n os d (Ref a) has within = loaded_name rs sh n os d a has within

-- ---- the fields of one object

abbrev pub object_with : ObjectKind → List Value → Object
object_with k vs = record { kind = k; fields = vs }

-- the name of the object after these
abbrev pub name_behind : List Object → Name
name_behind front = record { thread = 0; serial = suc (suc (length front)) }

object_behind : (rs : List Value) (sh : Object) (n : ℕ) (front : List Object) (o : Object) (back : List Object)
    → object_of (graph_with rs sh n (front ++ o ∷ back)) (name_behind front) ≡ o
object_behind rs sh n front o back =
    object_is rs sh (table n ∷ front ++ o ∷ back) (suc (length front)) ∙ at_front front o back no_object

field_behind : (rs : List Value) (sh : Object) (n : ℕ) (front : List Object) (o : Object) (back : List Object) (i : ℕ) (v : Value)
    → with_field (graph_with rs sh n (front ++ o ∷ back)) (name_behind front) i v ≡ graph_with rs sh n (front ++ set_field o i v ∷ back)
field_behind rs sh n front o back i v =
    field_is rs sh (table n ∷ front ++ o ∷ back) (suc (length front)) i v
    ∙ ap (λ x. graph_with rs sh n (set (front ++ o ∷ back) (length front) (set_field x i v))) (at_front front o back no_object)
    ∙ ap (λ l. graph_with rs sh n l) (set_front front o back (set_field o i v))

-- the registers while an object is filled
pub record HasObject (rs : List Value) (a : Name) : Type 0 where
  pub table : HasTable rs
  pub object : get_or rs 2 Nil ≡ Ref a

three_kept : (rs : List Value) (a : Name) (v : Value) → HasObject rs a → HasObject (set rs 3 v) a
three_kept rs a v has = record {
  table = table_kept rs 3 v (omega arith) has.table;
  object = get_or-set_other rs 3 2 v Nil (λ e. absurd (omega (arith, e))) ∙ has.object;
}

module _ (sh : Object) (n : ℕ) (front back : List Object) (k : ObjectKind) where
  abbrev graph_of_fields : List Value → List Value → Graph
  graph_of_fields rs fs = graph_with rs sh n (front ++ object_with k fs ∷ back)

  -- a value is loaded and stored
  one_stored : (rs fs : List Value) (i : ℕ) (v : Value) → HasObject rs (name_behind front) → is_within n v ≡ true → i < length fs
      → graph_after (graph_of_fields rs fs) (load 3 v ∷ commands.Put 2 i 3 ∷ []) ≡ graph_of_fields (set rs 3 (moved_value v)) (set fs i (moved_value v))
  one_stored rs fs i v has within low =
      let rs2 = set rs 3 (moved_value v) in
      let has2 = three_kept rs (name_behind front) (moved_value v) has in
      let there = object_behind rs2 sh n front (object_with k fs) back in
      let low2 : i < length (object_of (graph_of_fields rs2 fs) (name_behind front)).fields = subst (λ (o : Object). i < length o.fields) (sym there) low in
      let value : get_or rs2 3 Nil ≡ moved_value v = get_or-set_same rs 3 (moved_value v) Nil (let e = has.table.long in omega (arith, e)) in
      ap (λ g. (step g 0 (commands.Put 2 i 3)).0) (loaded rs sh n (front ++ object_with k fs ∷ back) 3 v has.table within)
      ∙ put rs2 sh (table n ∷ front ++ object_with k fs ∷ back) (name_behind front) 2 i 3 has2.object low2
      ∙ ap (λ w. with_field (graph_of_fields rs2 fs) (name_behind front) i w) value
      ∙ field_behind rs2 sh n front (object_with k fs) back i (moved_value v)

  -- what a run of stores leaves
  abbrev Stored : List Value → List Value → List Command → List Value → Type 0
  Stored rs fs ks gs = (qs : List Value) × (graph_after (graph_of_fields rs fs) ks ≡ graph_of_fields qs gs) × HasObject qs (name_behind front)

  stored_next : (rs done : List Value) (v : Value) (vs : List Value) → HasObject rs (name_behind front) → is_within n v ≡ true
      → ((qs : List Value) → HasObject qs (name_behind front) → Stored qs ((done ++ moved_value v ∷ []) ++ nils (length vs)) (stores (length (done ++ moved_value v ∷ [])) vs) ((done ++ moved_value v ∷ []) ++ map moved_value vs))
      → Stored rs (done ++ nils (suc (length vs))) (load 3 v ∷ commands.Put 2 (length done) 3 ∷ stores (suc (length done)) vs) (done ++ moved_value v ∷ map moved_value vs)
  stored_next rs done v vs has within rest =
      let qs = set rs 3 (moved_value v) in
      let after = rest qs (three_kept rs (name_behind front) (moved_value v) has) in
      let long = length-append done (nils (suc (length vs))) in
      let low : length done < length (done ++ nils (suc (length vs))) = omega (arith, long) in
      let first = one_stored rs (done ++ nils (suc (length vs))) (length done) v has within low
      ∙ ap (graph_of_fields qs) (set_front done Nil (nils (length vs)) (moved_value v) ∙ sym (append_assoc done (moved_value v ∷ []) (nils (length vs)))) in (
        after.0,
        ap (λ g. graph_after g (stores (suc (length done)) vs)) first
            ∙ ap (λ i. graph_after (graph_of_fields qs ((done ++ moved_value v ∷ []) ++ nils (length vs))) (stores i vs)) (sym (length_front done (moved_value v)))
            ∙ after.1
            ∙ ap (graph_of_fields after.0) (append_assoc done (moved_value v ∷ []) (map moved_value vs)),
        after.2,
      )

  pub stored : (rs done vs : List Value) → HasObject rs (name_behind front) → are_within n vs ≡ true
      → Stored rs (done ++ nils (length vs)) (stores (length done) vs) (done ++ map moved_value vs)
  stored rs done [] has within = (rs, refl, has)
  stored rs done (Nil ∷ vs) has within =
      let parts = and_parts (is_within n Nil) (are_within n vs) within in
      let after = stored rs (done ++ Nil ∷ []) vs has parts.1 in (
        after.0,
        ap (λ fs. graph_after (graph_of_fields rs fs) (stores (suc (length done)) vs)) (sym (append_assoc done (Nil ∷ []) (nils (length vs))))
            ∙ ap (λ i. graph_after (graph_of_fields rs ((done ++ Nil ∷ []) ++ nils (length vs))) (stores i vs)) (sym (length_front done Nil))
            ∙ after.1
            ∙ ap (graph_of_fields after.0) (append_assoc done (Nil ∷ []) (map moved_value vs)),
        after.2,
      )
  stored rs done (Int m ∷ vs) has within =
      let parts = and_parts (is_within n (Int m)) (are_within n vs) within in
      stored_next rs done (Int m) vs has parts.0 (λ qs ready. stored qs (done ++ Int m ∷ []) vs ready parts.1)
  stored rs done (Ref a ∷ vs) has within =
      let parts = and_parts (is_within n (Ref a)) (are_within n vs) within in
      stored_next rs done (Ref a) vs has parts.0 (λ qs ready. stored qs (done ++ moved_value (Ref a) ∷ []) vs ready parts.1)

-- ---- all objects

abbrev pub blank : Object → Object
blank o = nil_object o.kind (length o.fields)

abbrev pub moved_object : Object → Object
moved_object o = renamed_object moved o

-- what some commands leave
abbrev pub Leads : Graph → List Command → (List Value → Graph) → Type 0
Leads g ks z = (qs : List Value) × (graph_after g ks ≡ z qs) × HasTable qs

behind_front : {A : Type 0} (front : List A) (x : A) (back : List A) → front ++ x ∷ back ≡ (front ++ x ∷ []) ++ back
behind_front front x back = sym (append_assoc front (x ∷ []) back)

module _ (sh : Object) (n : ℕ) where
  pub filled : (rs : List Value) (front os : List Object) → HasTable rs → length front + length os ≡ n → list_all (is_item n) os ≡ true
      → Leads (graph_with rs sh n (front ++ map blank os)) (fills (suc (length front)) os) (λ qs. graph_with qs sh n (front ++ map moved_object os))
  filled rs front [] has all items = (rs, refl, has)
  filled rs front (o ∷ os) has all items =
      let parts = and_parts (is_item n o) (list_all (is_item n) os) items in
      let within = (and_parts (leb (length o.fields) 65535) (are_within n o.fields) parts.0).1 in
      let long = refs_long 1 n in
      let low : suc (length front) < length (Nil ∷ refs 1 n) = omega (arith, long, all) in
      let rs2 = set rs 2 (Ref (name_behind front)) in
      let has2 : HasObject rs2 (name_behind front) = record {
        table = table_kept rs 2 (Ref (name_behind front)) (omega arith) has;
        object = get_or-set_same rs 2 (Ref (name_behind front)) Nil (let e = has.long in omega (arith, e));
      } in
      let fetched : (step (graph_with rs sh n (front ++ blank o ∷ map blank os)) 0 (commands.Get 2 1 (suc (length front)))).0 ≡ graph_with rs2 sh n (front ++ blank o ∷ map blank os) =
      got rs sh (table n ∷ front ++ blank o ∷ map blank os) table_name 2 1 (suc (length front)) has.table low
      ∙ ap (λ v. graph_with (set rs 2 v) sh n (front ++ blank o ∷ map blank os)) (table_at n (suc (length front)) (omega arith) (omega (arith, all))) in
      let one = stored sh n front (map blank os) o.kind rs2 [] o.fields has2 within in
      let rest = filled one.0 (front ++ moved_object o ∷ []) os one.2.table (let l = length_front front (moved_object o) in omega (arith, l, all)) parts.1 in (
        rest.0,
        ap (λ g. graph_after g (stores 0 o.fields ++ fills (suc (suc (length front))) os)) fetched
            ∙ after_append (graph_with rs2 sh n (front ++ blank o ∷ map blank os)) (stores 0 o.fields) (fills (suc (suc (length front))) os)
            ∙ ap (λ g. graph_after g (fills (suc (suc (length front))) os)) one.1
            ∙ ap (λ l. graph_after (graph_with one.0 sh n l) (fills (suc (suc (length front))) os)) (behind_front front (moved_object o) (map blank os))
            ∙ ap (λ i. graph_after (graph_with one.0 sh n ((front ++ moved_object o ∷ []) ++ map blank os)) (fills (suc i) os)) (sym (length_front front (moved_object o)))
            ∙ rest.1
            ∙ ap (λ l. graph_with rest.0 sh n l) (sym (behind_front front (moved_object o) (map moved_object os))),
        rest.2,
      )

-- the table of those that were made, and nils for those to come
abbrev pub part_table : ℕ → ℕ → Object
part_table done more = tabled (Nil ∷ refs 1 done ++ nils more)

made_of : (g : Graph) (k : ObjectKind) (n : ℕ) → (step g 0 (make_of k n)).0 ≡ (made g 0 2 (nil_object k n)).0
made_of g Record n = refl
made_of g Array n = refl

module _ (sh : Object) where
  one_made : (rs : List Value) (front : List Object) (o : Object) (more : ℕ) → HasTable rs
      → graph_after (lone_graph rs sh (part_table (length front) (suc more) ∷ front)) (make o ∷ commands.Put 1 (suc (length front)) 2 ∷ [])
      ≡ lone_graph (set rs 2 (Ref (name_behind front))) sh (part_table (suc (length front)) more ∷ front ++ blank o ∷ [])
  one_made rs front o more has =
      let f = length front in
      let g = lone_graph rs sh (part_table f (suc more) ∷ front) in
      let rs2 = set rs 2 (Ref (name_behind front)) in
      let os2 = part_table f (suc more) ∷ front ++ blank o ∷ [] in
      let name : suc f + 1 ≡ suc (suc f) = omega arith in
      let new : (step g 0 (make o)).0 ≡ lone_graph rs2 sh os2 =
      made_of g o.kind (length o.fields) ∙ ap (λ s. lone_graph (set rs 2 (Ref (record { thread = 0; serial = s }))) sh os2) name in
      let has2 : HasTable rs2 = table_kept rs 2 (Ref (name_behind front)) (omega arith) has in
      let value : get_or rs2 2 Nil ≡ Ref (name_behind front) = get_or-set_same rs 2 (Ref (name_behind front)) Nil (let e = has.long in omega (arith, e)) in
      let long1 = refs_long 1 f in
      let long2 = length-append (refs 1 f) (nils (suc more)) in
      let low : suc f < length (Nil ∷ refs 1 f ++ nils (suc more)) = omega (arith, long1, long2) in
      let place : set (refs 1 f ++ nils (suc more)) f (Ref (name_behind front)) ≡ refs 1 (suc f) ++ nils more =
      ap (λ i. set (refs 1 f ++ nils (suc more)) i (Ref (name_behind front))) (sym long1)
      ∙ set_front (refs 1 f) Nil (nils more) (Ref (name_behind front))
      ∙ behind_front (refs 1 f) (Ref (name_behind front)) (nils more)
      ∙ ap (λ l. l ++ nils more) (ap (λ s. refs 1 f ++ Ref (record { thread = 0; serial = suc s }) ∷ []) (let same : suc f ≡ 1 + f = omega arith in same) ∙ refs_more 1 f) in
      ap (λ x. (step x 0 (commands.Put 1 (suc f) 2)).0) new
      ∙ put rs2 sh os2 table_name 1 (suc f) 2 has2.table low
      ∙ ap (λ v. with_field (lone_graph rs2 sh os2) table_name (suc f) v) value
      ∙ ap (λ l. lone_graph rs2 sh (tabled (Nil ∷ l) ∷ front ++ blank o ∷ [])) place

  pub all_made : (rs : List Value) (front os : List Object) → HasTable rs
      → Leads (lone_graph rs sh (part_table (length front) (length os) ∷ front)) (makes (suc (length front)) os)
      (λ qs. lone_graph qs sh (part_table (length front + length os) 0 ∷ front ++ map blank os))
  all_made rs front [] has = (
    rs,
    ap (λ l. lone_graph rs sh (part_table (length front) 0 ∷ l)) (sym (append-nil front))
        ∙ ap (λ i. lone_graph rs sh (part_table i 0 ∷ front ++ [])) (let same : length front ≡ length front + 0 = omega arith in same),
    has,
  )
  all_made rs front (o ∷ os) has =
      let rs2 = set rs 2 (Ref (name_behind front)) in
      let has2 = table_kept rs 2 (Ref (name_behind front)) (omega arith) has in
      let front2 = front ++ blank o ∷ [] in
      let more : length front2 ≡ suc (length front) = length_front front (blank o) in
      let rest = all_made rs2 front2 os has2 in (
        rest.0,
        ap (λ g. graph_after g (makes (suc (suc (length front))) os)) (one_made rs front o (length os) has)
            ∙ ap (λ i. graph_after (lone_graph rs2 sh (part_table i (length os) ∷ front2)) (makes (suc i) os)) (sym more)
            ∙ rest.1
            ∙ ap (λ i. lone_graph rest.0 sh (part_table i 0 ∷ front2 ++ map blank os)) (let same : length front2 + length os ≡ length front + suc (length os) = omega (arith, more) in same)
            ∙ ap (λ l. lone_graph rest.0 sh (part_table (length front + suc (length os)) 0 ∷ l)) (sym (behind_front front (blank o) (map blank os))),
        rest.2,
      )

-- ---- the registers

-- these values in the places from d on
abbrev pub sets : List Value → ℕ → List Value → List Value
sets rs d [] = rs
sets rs d (v ∷ vs) = sets (set rs d v) (suc d) vs

all_loaded : (sh : Object) (n : ℕ) (os : List Object) (rs : List Value) (d : ℕ) (vs : List Value) → HasTable rs → 2 ≤ d → are_within n vs ≡ true
    → (graph_after (graph_with rs sh n os) (loads d vs) ≡ graph_with (sets rs d (map moved_value vs)) sh n os) × HasTable (sets rs d (map moved_value vs))
all_loaded sh n os rs d [] has high within = (refl, has)
all_loaded sh n os rs d (v ∷ vs) has high within =
    let parts = and_parts (is_within n v) (are_within n vs) within in
    let rest = all_loaded sh n os (set rs d (moved_value v)) (suc d) vs (table_kept rs d (moved_value v) high has) (omega (arith, high)) parts.1 in
    (ap (λ g. graph_after g (loads (suc d) vs)) (loaded rs sh n os d v has parts.0) ∙ rest.0, rest.1)

sets_behind : (r : Value) (rs : List Value) (d : ℕ) (vs : List Value) → sets (r ∷ rs) (suc d) vs ≡ r ∷ sets rs d vs
sets_behind r rs d [] = refl
sets_behind r rs d (v ∷ vs) = sets_behind r (set rs d v) (suc d) vs

sets_all : (rs vs : List Value) → length rs ≡ length vs → sets rs 0 vs ≡ vs
sets_all [] [] e = refl
sets_all [] (v ∷ vs) e = absurd (omega (arith, e))
sets_all (r ∷ rs) [] e = absurd (omega (arith, e))
sets_all (r ∷ rs) (v ∷ vs) e = sets_behind v rs 0 vs ∙ ap (λ l. v ∷ l) (sets_all rs vs (omega (arith, e)))

registers_set : (rs : List Value) (v0 v1 : Value) (vs : List Value) → length rs ≡ suc (suc (length vs)) → set (sets (set rs 0 v0) 2 vs) 1 v1 ≡ v0 ∷ v1 ∷ vs
registers_set [] v0 v1 vs e = absurd (omega (arith, e))
registers_set (a ∷ []) v0 v1 vs e = absurd (omega (arith, e))
registers_set (a ∷ b ∷ rs) v0 v1 vs e =
    ap (λ l. set l 1 v1) (sets_behind v0 (b ∷ rs) 1 vs ∙ ap (λ l. v0 ∷ l) (sets_behind b rs 0 vs ∙ ap (λ l. b ∷ l) (sets_all rs vs (omega (arith, e)))))

table_first : (rs : List Value) (v : Value) → HasTable rs → HasTable (set rs 0 v)
table_first rs v has = record {
  long = length-set rs 0 v ∙ has.long;
  table = get_or-set_other rs 0 1 v Nil (λ e. absurd (omega (arith, e))) ∙ has.table;
}

pub registers_loaded : (sh : Object) (n : ℕ) (os : List Object) (rs vs : List Value) → HasTable rs → length vs ≡ 16 → are_within n vs ≡ true
    → graph_after (graph_with rs sh n os) (all_loads vs) ≡ graph_with (map moved_value vs) sh n os
registers_loaded sh n os rs [] has long within = absurd (omega (arith, long))
registers_loaded sh n os rs (v ∷ []) has long within = absurd (omega (arith, long))
registers_loaded sh n os rs (v ∷ w ∷ vs) has long within =
    let one = and_parts (is_within n v) (are_within n (w ∷ vs)) within in
    let two = and_parts (is_within n w) (are_within n vs) one.1 in
    let rs1 = set rs 0 (moved_value v) in
    let has1 = table_first rs (moved_value v) has in
    let rest = all_loaded sh n os rs1 2 vs has1 (omega arith) two.1 in
    let rs2 = sets rs1 2 (map moved_value vs) in
    let count : length rs ≡ suc (suc (length (map moved_value vs))) = (let e = has.long in let m = length_map moved_value vs in omega (arith, e, m, long)) in
    ap (λ g. graph_after g (loads 2 vs ++ load 1 w ∷ [])) (loaded rs sh n os 0 v has one.0)
    ∙ after_append (graph_with rs1 sh n os) (loads 2 vs) (load 1 w ∷ [])
    ∙ ap (λ g. graph_after g (load 1 w ∷ [])) rest.0
    ∙ loaded rs2 sh n os 1 w rest.1 two.0
    ∙ ap (λ l. graph_with l sh n os) (registers_set rs (moved_value v) (moved_value w) (map moved_value vs) count)

-- ---- the whole plan

-- what the picture is sound of
pub record Sound (p : Content) : Type 0 where
  pub sixteen : length p.registers ≡ 16
  pub registers : are_within (length p.objects) p.registers ≡ true
  pub objects : list_all (is_item (length p.objects)) p.objects ≡ true

pub sound_is : (p : Content) → is_sound p ≡ true → Sound p
sound_is p h =
    let two = and_parts (eqb (length p.registers) 16 && are_within (length p.objects) p.registers) (list_all (is_item (length p.objects)) p.objects) h in
    let one = and_parts (eqb (length p.registers) 16) (are_within (length p.objects) p.registers) two.0 in
    record { sixteen = eqb-true (length p.registers) 16 one.0; registers = one.1; objects = two.1 }

-- the graph that is built of a picture
abbrev pub built : Object → Content → Graph
built sh p = graph_with (map moved_value p.registers) sh (length p.objects) (map moved_object p.objects)

abbrev pub first_registers : List Value
first_registers = Ref (shared_name 1) ∷ nils 15

opened_is : (c : Config) → c.threads ≡ 1 → start_graph c ≡ lone_graph first_registers (nil_object Array c.shared) []
opened_is c one = ap (λ t. record { shared = nil_object Array c.shared; mutators = replicate t (start_mutator t) }) one

pub plan_builds : (c : Config) (p : Content) → c.threads ≡ 1 → is_sound p ≡ true → graph_after (start_graph c) (plan_of p) ≡ built (nil_object Array c.shared) p
plan_builds c p one sound =
    let s = sound_is p sound in
    let sh = nil_object Array c.shared in
    let n = length p.objects in
    let rs1 = set first_registers 1 (Ref table_name) in
    let has1 : HasTable rs1 = record { long = refl; table = refl } in
    let new = all_made sh rs1 [] p.objects has1 in
    let none : 0 + n ≡ n = omega arith in
    let full = filled sh n new.0 [] p.objects new.2 none s.objects in
    let begins : (step (start_graph c) 0 (commands.Arr 1 (suc n))).0 ≡ lone_graph rs1 sh (part_table 0 n ∷ []) =
    ap (λ g. (step g 0 (commands.Arr 1 (suc n))).0) (opened_is c one) in
    let rest = fills 1 p.objects ++ all_loads p.registers in
    ap (λ g. graph_after g (makes 1 p.objects ++ fills 1 p.objects ++ all_loads p.registers)) begins
    ∙ ap (graph_after (lone_graph rs1 sh (part_table 0 n ∷ []))) (append_assoc (makes 1 p.objects) (fills 1 p.objects) (all_loads p.registers))
    ∙ after_append (lone_graph rs1 sh (part_table 0 n ∷ [])) (makes 1 p.objects) rest
    ∙ ap (λ g. graph_after g rest) (new.1 ∙ ap (λ i. lone_graph new.0 sh (part_table i 0 ∷ map blank p.objects)) none ∙ ap (λ l. lone_graph new.0 sh (tabled (Nil ∷ l) ∷ map blank p.objects)) (append-nil (refs 1 n)))
    ∙ after_append (graph_with new.0 sh n (map blank p.objects)) (fills 1 p.objects) (all_loads p.registers)
    ∙ ap (λ g. graph_after g (all_loads p.registers)) full.1
    ∙ registers_loaded sh n (map moved_object p.objects) full.0 p.registers full.2 s.sixteen s.registers
