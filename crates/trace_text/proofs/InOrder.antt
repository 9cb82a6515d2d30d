-- The histories that orders make, and how the lines of one go on.
use Rattle.std.proofs.Common.{◌≡◌, ℕ, ◌+◌, ◌<◌, ◌≤◌, ◌^◌, Bool, true, false, cond, eqb, eq-eqb, eqb-true, List, [], ◌∷◌, ◌++◌, length, take, drop, map, get_or, replicate, refl, sym, ap, ◌∙◌, subst, append_assoc, append-nil, arith, Option, inl, inr}
use Rattle.std.proofs.lemmas.Grind.{flat_map-append}
use Rattle.std.proofs.lemmas.List.{drop-drop, drop_all, get_or-replicate, get_or_past, length-replicate}
use Rattle.std.proofs.lemmas.Bool.{cases_lt}
use Rattle.std.proofs.Math.Numerals.{add-one}
use Rattle.std.proofs.Math.Seq.{drop-cons}
use Rattle.std.specs.List.{AllByRecursion, flat_map}
use Rattle.block_store.proofs.Lemmas.{funext}
use Rattle.never_heap.specs.declared.Entry.{Entry}
use Rattle.never_heap.specs.declared.Item.{Item}
use Rattle.never_heap.specs.declared.Item.TheVariants as items
use Rattle.never_heap.specs.Histories.{HistoryItem, Started, Did, part, starts_in, work_in}
use Rattle.never_heap.specs.HistoryOfOrder.{item_of, IsHistoryOf}
use Rattle.trace_text.specs.Lines.{ended}
use Rattle.trace_text.specs.OrderTexts.{IsOrderOf, entries_in, left_behind, history_from, history_of, lines_from, end_text, order_text, text_in_order}
use Rattle.trace_text.specs.Places.{left_of, HasNext, next_line, told_after, starts_after}
use Rattle.trace_text.specs.Streams.{Appends, AppendsPrefix}
use Rattle.trace_text.specs.RunTexts.{entry_line, totals_line}
use Rattle.trace_text.proofs.AppendedTexts.{appends_none, appends_in_turn, front_in_turn, front_longer}

-- ---- a history and its order

counted : (b : Bool) (n : ℕ) (e : Entry) (es : List Entry) → n ≡ length es
    → cond b 1 0 + n ≡ length (cond b (e ∷ es) es)
counted true n e es same = omega arith
counted false n e es same = omega arith

-- the order of a history names each thread as often as its part is long
named_as_long : (h : List HistoryItem) (t : ℕ) → entries_in t (map item_of h) ≡ length (part t h)
named_as_long [] t = refl
named_as_long (Started ∷ h) t = named_as_long h t
named_as_long (Did e ∷ h) t = counted (eqb e.thread t) _ e (part t h) (named_as_long h t)

pub is_order : (order : List Item) (logs : List (List Entry)) (h : List HistoryItem)
    → IsHistoryOf order logs h → IsOrderOf order logs
is_order order logs h made t =
    ap (entries_in t) (sym made.items) ∙ named_as_long h t ∙ ap length (made.logged t)

behind : (b : Bool) (e : Entry) (es left : List Entry) → cond b (e ∷ es) es ≡ left
    → es ≡ cond b (drop 1 left) left
behind true e es left same = ap (drop 1) same
behind false e es left same = same

own : (e : Entry) (h : List HistoryItem) → part e.thread (Did e ∷ h) ≡ e ∷ part e.thread h
own e h = ap (λ b. cond b (e ∷ part e.thread h) (part e.thread h)) (eq-eqb e.thread e.thread refl)

-- the order of a history makes this history of its parts
made_again : (h : List HistoryItem) (left : ℕ → List Entry) → ((t : ℕ) → part t h ≡ left t)
    → history_from left (map item_of h) ≡ h
made_again [] left same = refl
made_again (Started ∷ h) left same = ap (λ z. Started ∷ z) (made_again h left same)
made_again (Did e ∷ h) left same =
    let rest : List HistoryItem = history_from (left_behind e.thread left) (map item_of h) in
    let first : left e.thread ≡ e ∷ part e.thread h = sym (same e.thread) ∙ own e h in
    let others : rest ≡ h =
    made_again h (left_behind e.thread left)
    (λ t. behind (eqb e.thread t) e (part t h) (left t) (same t)) in
    ap (λ (es : List Entry). map (λ (x : Entry). Did x) (take 1 es) ++ rest) first
    ∙ ap (λ z. Did e ∷ z) others

pub made_once : (order : List Item) (logs : List (List Entry)) (h : List HistoryItem)
    → IsHistoryOf order logs h → history_of order logs ≡ h
made_once order logs h made =
    ap (λ (o : List Item). history_of o logs) (sym made.items)
    ∙ made_again h (λ t. get_or logs t []) made.logged

pub texts_agree : (order : List Item) (logs : List (List Entry)) (h : List HistoryItem)
    → IsHistoryOf order logs h
    → order_text order logs (starts_in h) (work_in h) ≡ text_in_order h
texts_agree order logs h made =
    let last : List ℕ = totals_line (starts_in h) (work_in h) in
    ap (λ (k : List HistoryItem). flat_map ended (lines_from 0 k) ++ last)
    (made_once order logs h made)
    ∙ ap (λ (text : List ℕ). flat_map ended (lines_from 0 h) ++ text) (sym (append-nil last))
    ∙ sym (flat_map-append ended (lines_from 0 h) (end_text h ∷ []))

-- ---- the lines that are left

-- the lines of the items of an order that are left
abbrev pub text_from : List (List Entry) → (ℕ → ℕ) → ℕ → List Item → List ℕ
text_from logs told starts order =
    flat_map ended (lines_from starts (history_from (left_of logs told) order))

one_entry : (starts : ℕ) (es : List Entry) (h : List HistoryItem)
    → flat_map ended (lines_from starts (map (λ (e : Entry). Did e) (take 1 es) ++ h))
    ≡ flat_map entry_line (take 1 es) ++ flat_map ended (lines_from starts h)
one_entry starts [] h = refl
one_entry starts (e ∷ es) h =
    ap (λ (text : List ℕ). text ++ flat_map ended (lines_from starts h))
    (sym (append-nil (entry_line e)))

dropped : (b : Bool) (k : ℕ) (log : List Entry)
    → cond b (drop 1 (drop k log)) (drop k log) ≡ drop (cond b (k + 1) k) log
dropped true k log = drop-drop 1 k log
dropped false k log = refl

-- the lines are that of the next item and those after it
pub next_then : (logs : List (List Entry)) (told : ℕ → ℕ) (starts : ℕ) (i : Item)
    (order : List Item)
    → text_from logs told starts (i ∷ order)
    ≡ next_line logs told starts i
    ++ text_from logs (told_after told i) (starts_after starts i) order
next_then logs told starts items.Start order = refl
next_then logs told starts (items.Entry t) order =
    one_entry starts (left_of logs told t) _
    ∙ ap (λ (left : ℕ → List Entry). next_line logs told starts (items.Entry t)
    ++ flat_map ended (lines_from starts (history_from left order)))
    (funext _ _ (λ u. dropped (eqb t u) (told u) (get_or logs u [])))

pub none_told : (n t : ℕ) → get_or {A = ℕ} (replicate n 0) t 0 ≡ 0
none_told n t = elim (cases_lt t n) [
  | inl lt ↦ get_or-replicate n t 0 0 lt
  | inr le ↦ get_or_past (replicate n 0) t 0 (omega (arith, length-replicate {A = ℕ} n 0, le))
]

-- where nothing was written, all is left
pub all_left : (logs : List (List Entry)) (told : ℕ → ℕ) (order : List Item)
    → ((t : ℕ) → told t ≡ 0)
    → text_from logs told 0 order ≡ flat_map ended (lines_from 0 (history_of order logs))
all_left logs told order none =
    ap (λ (left : ℕ → List Entry). flat_map ended (lines_from 0 (history_from left order)))
    (funext _ _ (λ t. ap (λ (k : ℕ). drop k (get_or logs t [])) (none t)))

-- ---- a writer under way

zero_more : (n : ℕ) → 0 + n ≡ n
zero_more n = omega arith

-- what was written and what is left make the whole text, and each thread has as many entries left
-- as the order still names it
pub record IsUnderWay
    (logs : List (List Entry)) (order : List Item) (i : ℕ) (told : ℕ → ℕ) (starts : ℕ)
    (before now : Option (List ℕ)) : Type 0 where
  pub text : List ℕ
  pub written : Appends before now text
  pub whole : text ++ text_from logs told starts (drop i order)
      ≡ flat_map ended (lines_from 0 (history_of order logs))
  pub left : (t : ℕ) → told t + entries_in t (drop i order) ≡ length (get_or logs t [])
  pub counted : starts ≤ i

has_next : (logs : List (List Entry)) (told : ℕ → ℕ) (starts i : ℕ) (item : Item)
    (order : List Item) → starts ≤ i → i + 1 < 2 ^ 64
    → ((t : ℕ) → told t + entries_in t (item ∷ order) ≡ length (get_or logs t []))
    → HasNext logs told starts item
has_next logs told starts i items.Start order le lt left = omega arith
has_next logs told starts i (items.Entry t) order le lt left =
    let named : entries_in t (items.Entry t ∷ order) ≡ 1 + entries_in t order =
    ap (λ b. cond b 1 0 + entries_in t order) (eq-eqb t t refl) in
    let all = left t in omega arith

less_left : (b : Bool) (k n all : ℕ) → k + (cond b 1 0 + n) ≡ all → cond b (k + 1) k + n ≡ all
less_left true k n all same = omega arith
less_left false k n all same = omega arith

still_left : (logs : List (List Entry)) (told : ℕ → ℕ) (item : Item) (order : List Item)
    → ((t : ℕ) → told t + entries_in t (item ∷ order) ≡ length (get_or logs t []))
    → (t : ℕ) → told_after told item t + entries_in t order ≡ length (get_or logs t [])
still_left logs told items.Start order left t = left t
still_left logs told (items.Entry u) order left t =
    less_left (eqb u t) (told t) (entries_in t order) _ (left t)

counted_more : (item : Item) (starts i : ℕ) → starts ≤ i → starts_after starts item ≤ i + 1
counted_more items.Start starts i le = omega arith
counted_more (items.Entry t) starts i le = omega arith

pub not_begun : (logs : List (List Entry)) (order : List Item) (told : ℕ → ℕ)
    (before : Option (List ℕ)) → IsOrderOf order logs → ((t : ℕ) → told t ≡ 0)
    → IsUnderWay logs order 0 told 0 before before
not_begun logs order told before fits none = record {
  text = [];
  written = appends_none before;
  whole = all_left logs told order none;
  left = λ t. ap (λ (k : ℕ). k + entries_in t order) (none t) ∙ zero_more _ ∙ fits t;
  counted = omega arith;
}

-- the rest of an order at a place in it
pub rest_from : (order : List Item) (i : ℕ) (d : Item) → i < length order
    → drop i order ≡ get_or order i d ∷ drop (i + 1) order
rest_from order i d lt =
    drop-cons order i d lt ∙ ap (λ (n : ℕ). get_or order i d ∷ drop n order) (sym (add-one i))

module _ (logs : List (List Entry)) (order : List Item) (i : ℕ) (told : ℕ → ℕ) (starts : ℕ)
    (before now : Option (List ℕ)) (item : Item)
    (rest : drop i order ≡ item ∷ drop (i + 1) order)
    (so_far : IsUnderWay logs order i told starts before now) where
  left_now : (t : ℕ) → told t + entries_in t (item ∷ drop (i + 1) order) ≡ length (get_or logs t [])
  left_now t = ap (λ (is : List Item). told t + entries_in t is) (sym rest) ∙ so_far.left t

  pub next_is_there : i + 1 < 2 ^ 64 → HasNext logs told starts item
  next_is_there small =
      has_next logs told starts i item (drop (i + 1) order) so_far.counted small left_now

  -- the text so far, the next line, and what is left after it
  whole_now : (so_far.text ++ next_line logs told starts item)
      ++ text_from logs (told_after told item) (starts_after starts item) (drop (i + 1) order)
      ≡ flat_map ended (lines_from 0 (history_of order logs))
  whole_now =
      append_assoc so_far.text (next_line logs told starts item) _
      ∙ ap (λ (text : List ℕ). so_far.text ++ text)
      (sym (next_then logs told starts item (drop (i + 1) order)))
      ∙ ap (λ (is : List Item). so_far.text ++ text_from logs told starts is) (sym rest)
      ∙ so_far.whole

  behind_line : (after : Option (List ℕ))
      → Appends now after (next_line logs told starts item)
      → IsUnderWay logs order (i + 1) (told_after told item) (starts_after starts item) before after
  behind_line after put = record {
    text = so_far.text ++ next_line logs told starts item;
    written = appends_in_turn before now after _ _ so_far.written put;
    whole = whole_now;
    left = still_left logs told item (drop (i + 1) order) left_now;
    counted = counted_more item starts i so_far.counted;
  }

  pub line_written : (after : Option (List ℕ)) (more : ℕ → ℕ) (count : ℕ)
      (bytes line : List ℕ)
      → ((t : ℕ) → more t ≡ told_after told item t) → count ≡ starts_after starts item
      → bytes ≡ line → line ≡ next_line logs told starts item
      → Appends now after bytes
      → IsUnderWay logs order (i + 1) more count before after
  line_written after more count bytes line same one made is put =
      subst (λ n. IsUnderWay logs order (i + 1) more n before after) (sym one)
      (subst (λ k. IsUnderWay logs order (i + 1) k (starts_after starts item) before after)
      (sym (funext _ _ same))
      (behind_line after (subst (Appends now after) (made ∙ is) put)))

  pub line_failed : (after : Option (List ℕ)) (bytes line : List ℕ)
      → bytes ≡ line → line ≡ next_line logs told starts item
      → AppendsPrefix now after bytes
      → AppendsPrefix before after (flat_map ended (lines_from 0 (history_of order logs)))
  line_failed after bytes line made is put =
      subst (AppendsPrefix before after) whole_now
      (front_longer before after _ _
      (front_in_turn before now after _ _ so_far.written
      (subst (AppendsPrefix now after) (made ∙ is) put)))

pub all_written : (logs : List (List Entry)) (order : List Item) (i : ℕ) (told : ℕ → ℕ)
    (starts : ℕ) (before now : Option (List ℕ)) → length order ≤ i
    → IsUnderWay logs order i told starts before now
    → Appends before now (flat_map ended (lines_from 0 (history_of order logs)))
all_written logs order i told starts before now le so_far =
    let none : drop i order ≡ [] = drop_all i order le in
    subst (Appends before now)
    (sym (append-nil so_far.text)
    ∙ ap (λ (is : List Item). so_far.text ++ text_from logs told starts is) (sym none)
    ∙ so_far.whole) so_far.written

-- ---- an order of logs makes a history

-- each entry in what the threads have left is one of its own thread
abbrev Own : (ℕ → List Entry) → Type 0
Own left = (t : ℕ) → AllByRecursion (λ (e : Entry). e.thread ≡ t) (left t)

-- each thread has as many entries left as the order names it
abbrev Named : List Item → (ℕ → List Entry) → Type 0
Named order left = (t : ℕ) → entries_in t order ≡ length (left t)

no_entry : (es : List Entry) → 0 ≡ length es → [] ≡ es
no_entry [] none = refl
no_entry (e ∷ es) none = absurd (omega arith)

own_behind : (b : Bool) (t : ℕ) (es : List Entry)
    → AllByRecursion (λ (e : Entry). e.thread ≡ t) es
    → AllByRecursion (λ (e : Entry). e.thread ≡ t) (cond b (drop 1 es) es)
own_behind true t [] own = tt
own_behind true t (e ∷ es) own = own.1
own_behind false t es own = own

named_behind : (b : Bool) (n : ℕ) (es : List Entry) → cond b 1 0 + n ≡ length es
    → n ≡ length (cond b (drop 1 es) es)
named_behind true n [] count = absurd (omega arith)
named_behind true n (e ∷ es) count = omega arith
named_behind false n es count = omega arith

-- a thread that is named has a next entry, which is its own
record HasFirst (t : ℕ) (es : List Entry) : Type 0 where
  entry : Entry
  rest : List Entry
  is : es ≡ entry ∷ rest
  own : entry.thread ≡ t

has_first : (t n : ℕ) (es : List Entry) → 1 + n ≡ length es
    → AllByRecursion (λ (e : Entry). e.thread ≡ t) es → HasFirst t es
has_first t n [] count own = absurd (omega arith)
has_first t n (e ∷ es) count own = record { entry = e; rest = es; is = refl; own = own.0 }

named_here : (t : ℕ) (order : List Item)
    → entries_in t (items.Entry t ∷ order) ≡ 1 + entries_in t order
named_here t order = ap (λ b. cond b 1 0 + entries_in t order) (eq-eqb t t refl)

-- what is put back in front of what is left after an entry is what was left
put_back : (b : Bool) (e : Entry) (es left part : List Entry)
    → (b ≡ true → left ≡ e ∷ es) → part ≡ cond b (drop 1 left) left
    → cond b (e ∷ part) part ≡ left
put_back true e es left part first same =
    ap (λ (ks : List Entry). e ∷ ks) (same ∙ ap (drop 1) (first refl)) ∙ sym (first refl)
put_back false e es left part first same = same

record Makes (order : List Item) (left : ℕ → List Entry) (h : List HistoryItem) : Type 0 where
  items : map item_of h ≡ order
  parts : (t : ℕ) → part t h ≡ left t

-- an entry in front of a history that the rest of the order makes
entry_first : (u : ℕ) (order : List Item) (left : ℕ → List Entry) (e : Entry)
    (es : List Entry) (h : List HistoryItem) → left u ≡ e ∷ es → e.thread ≡ u
    → Makes order (left_behind u left) h → Makes (items.Entry u ∷ order) left (Did e ∷ h)
entry_first u order left e es h is own made = record {
  items = λ i. items.Entry (own i) ∷ made.items i;
  parts = λ t. ap (λ (n : ℕ). cond (eqb n t) (e ∷ part t h) (part t h)) own
      ∙ put_back (eqb u t) e es (left t) (part t h)
      (λ same. ap left (sym (eqb-true u t same)) ∙ is) (made.parts t);
}

makes : (order : List Item) (left : ℕ → List Entry) → Named order left → Own left
    → Makes order left (history_from left order)
makes [] left named own = record { items = refl; parts = λ t. no_entry (left t) (named t) }
makes (items.Start ∷ order) left named own =
    let rest = makes order left named own in
    record { items = ap (λ (is : List Item). items.Start ∷ is) rest.items; parts = rest.parts }
makes (items.Entry u ∷ order) left named own =
    let first : HasFirst u (left u) =
    has_first u (entries_in u order) (left u) (sym (named_here u order) ∙ named u) (own u) in
    let rest = makes order (left_behind u left)
    (λ t. named_behind (eqb u t) (entries_in t order) (left t) (named t))
    (λ t. own_behind (eqb u t) t (left t) (own t)) in
    let h : List HistoryItem = history_from (left_behind u left) order in
    subst (λ (es : List Entry). Makes (items.Entry u ∷ order) left
    (map (λ (e : Entry). Did e) (take 1 es) ++ h)) (sym first.is)
    (entry_first u order left first.entry first.rest h first.is first.own rest)

pub makes_history : (order : List Item) (logs : List (List Entry)) → IsOrderOf order logs
    → ((t : ℕ) → AllByRecursion (λ (e : Entry). e.thread ≡ t) (get_or logs t []))
    → IsHistoryOf order logs (history_of order logs)
makes_history order logs fits own =
    let made = makes order (λ t. get_or logs t []) fits own in
    record { items = made.items; logged = made.parts }
