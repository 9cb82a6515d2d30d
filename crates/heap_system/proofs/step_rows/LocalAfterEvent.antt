-- What a thread keeps at its own event, and at those of other threads.
use Rattle.std.proofs.Common.{◌≡◌, ℕ, ◌+◌, ◌*◌, ◌<◌, ◌≤◌, Bool, true, Option, Some, None, List, [], ◌∷◌, ◌++◌, length, append_assoc, append-nil, length-append, refl, sym, ap, ◌∙◌, subst, arith, suc}
use Rattle.block_store.specs.declared.Config.{Config}
use Rattle.block_store.specs.declared.PhaseWord.{PhaseWord}
use Rattle.block_store.specs.Heaps.{Heap}
use Rattle.block_store.specs.Places.{Cursor}
use Rattle.never_heap.specs.declared.Command.{Command}
use Rattle.never_heap.specs.declared.Entry.{Entry}
use Rattle.never_heap.specs.declared.Reply.{Reply}
use Rattle.never_heap.specs.Graphs.{Graph, register_of, count_of}
use Rattle.never_heap.specs.Histories.{HistoryItem, part}
use Rattle.never_heap.specs.RightWork.{requested_units, units_owed}
use Rattle.heap_system.specs.Lives.{sum_after, objects_of, most_units, most_objects}
use Rattle.never_heap.specs.Steps.{blocks_of}
use Rattle.work_account.specs.Accounts.{Balance, IsSound}
use Rattle.heap_machine.specs.Gating.{is_closing}
use Rattle.heap_machine.specs.declared.pass.Pass.{Pass}
use Rattle.heap_invariant.specs.name_invariant.Pictures.{Names}
use Rattle.heap_system.specs.Parts.{Part, Leave}
use Rattle.heap_system.specs.Locals.{LocalState, command_of, owed, errand_of, effect, part_got, pass_got, balance_in, balance_paid, balance_got, spent_got, paid_part, made_got, Verdict, entry_of, entries_of, works, unit_to_come, PartFits, IsRoomy}
use Rattle.heap_system.specs.Pictures.{stand_of, waiting}
use Rattle.heap_system.specs.Units.{IsRight}
use Rattle.heap_system.proofs.accounting.Balances.{paid_in, got_paid, paid_over, units_in, units_on, units_over, sound_in, sound_on, sound_over, is_made}
use Rattle.heap_system.proofs.history.OrderGrowth.{said_more, right_more}
use Rattle.heap_system.proofs.invariant.Invariant.{LocalKept}
use Rattle.heap_system.proofs.step_rows.PartLaws.{PartLaws}
use Rattle.heap_system.proofs.accounting.OwedAndPaid.{works_append, made_low, price_low, price_paid, owed_next, objects_next}
use Rattle.heap_system.proofs.invariant.SeenAndKept.{stage, stage_of, PartKept, Knows, IsSettled, Forward, graph_decided, told_by, IsDecided}

-- plain arithmetic
low_enough : (made come due other : ℕ) → made + come ≤ due → due ≡ other → made ≤ other
low_enough made come due other a e = omega arith

work_grows : (new old more most n : ℕ) → new ≡ old + (more + 0) → old ≤ n * most → more ≤ most → new ≤ suc n * most
work_grows new old more most n e a b = omega arith

ap-le : {A : Type 0} {x y : A} {n : ℕ} (f : A → ℕ) → x ≡ y → f x ≤ n → f y ≤ n
ap-le {n = n} f e low = subst (λ z. f z ≤ n) e low

-- another thread, whose registers and objects are as before
pub local_stays : (c : Config) (given : List Command) (g later : Graph) (order longer : List HistoryItem) (h new : Heap) (ns names : Names) (u : ℕ) (l : LocalState) → PartLaws c l.part → LocalKept c given g order h ns u l
    → ((q : ℕ) → register_of later u q ≡ register_of g u q) → count_of later u ≡ count_of g u → part u longer ≡ part u order → Forward h new → new Cursor ≤ c.blocks + 1 → (is_closing (stand_of c l.part) ≡ true → (new ≡ h) × (names ≡ ns)) → LocalKept c given later longer new names u l
local_stays c given g later order longer h new ns names u l laws kept same count more forward cursor rests =
    let s = laws.stays g later u l.pass (command_of l) kept.stands same count in
    record {
      config = kept.config;
      thread = kept.thread;
      fresh = kept.fresh;
      trace = kept.trace;
      fits = kept.fits;
      stands = s.0;
      knows = laws.knows h new ns names l.pass forward cursor kept.behind rests kept.knows;
      behind = omega (arith, kept.behind, forward.stages);
      settled = kept.settled;
      made = kept.made ∙ sym count;
      right = subst (λ x. IsRight c.width l.rate x) (sym more) kept.right;
      told = more ∙ kept.told ∙ sym (ap (λ o. l.log ++ entries_of l.thread (command_of l) l.spent o) s.1);
      said = kept.said;
    }

-- a thread with its event done, by its number, its configuration, and the word that it read
abbrev pub moved_on : LocalState → ℕ → Config → ℕ → LocalState
moved_on l t c w = record l {
  thread = t;
  log = l.log ++ entries_of t (command_of l) l.spent (effect c l.part w).reply;
  balance = balance_got (effect c l.part w) (requested_units (command_of l)) (blocks_of c.width (command_of l)) l.balance;
  spent = spent_got (effect c l.part w).reply (effect c l.part w).unit l.spent;
  made = made_got (command_of l) (effect c l.part w).reply l.made;
  pass = pass_got (effect c l.part w).entered t c.threads l.pass;
  part = part_got c t (errand_of l) l.pass l.part w;
}

-- what its event says of it alone, by the reply that it brings
pub record Moved (c : Config) (g : Graph) (order longer : List HistoryItem) (new : Heap) (names : Names) (t : ℕ) (l : LocalState) (v : Verdict) (unit : Bool) (q : Pass) (p : Part) (o : Option Reply) : Type 0 where
  pub more : part t longer ≡ part t order ++ told_by g t (command_of l) l.spent v
  pub stands : PartKept c (graph_decided g t (command_of l) v) t q (command_of l) p
  pub knows : Knows c new names q p
  pub fits : PartFits c (length l.log) (length l.trace) q p
  pub roomy : IsRoomy l.space p
  pub behind : stage q.cycle q.sweep ≤ stage_of new
  pub over : (r : Reply) → o ≡ Some r → p ≡ Leave
  pub told : entries_of t (command_of l) l.spent (waiting g l.part) ++ told_by g t (command_of l) l.spent v
      ≡ entries_of t (command_of l) l.spent o ++ entries_of t (command_of l) (spent_got o unit l.spent) (waiting (graph_decided g t (command_of l) v) p)
  pub low : spent_got o unit l.spent + unit_to_come c p ≤ owed l
  pub settled : IsSettled (owed l) (spent_got o unit l.spent) p
  pub exact : IsDecided v → l.spent ≡ owed l
  pub whole : (r : Reply) → o ≡ Some r → l.spent ≡ owed l
  pub counts : made_got (command_of l) o l.made ≡ count_of (graph_decided g t (command_of l) v) t
  pub some : (r : Reply) → o ≡ Some r → length l.log < length l.trace

-- the thread itself
module _ (c : Config) (given : List Command) (g : Graph) (order longer : List HistoryItem) (h new : Heap) (ns names : Names) (t : ℕ) (l : LocalState) (v : Verdict) (i : Option PhaseWord) (unit : Bool) (q : Pass) (p : Part) (kept : LocalKept c given g order h ns t l) where
  abbrev Event : Option Reply → Type 0
  Event o = Moved c g order longer new names t l v unit q p o

  abbrev after_part : List Entry → Balance → ℕ → ℕ → Part → LocalState
  after_part log balance spent made x = record l { thread = t; log = log; balance = balance; spent = spent; made = made; pass = q; part = x }

  abbrev told : ℕ
  told = requested_units (command_of l)

  -- its balance then
  abbrev balance_then : Option Reply → Balance
  balance_then o = balance_paid o unit told (blocks_of c.width (command_of l)) (balance_in i l.balance)

  paid_then : (o : Option Reply) → (balance_then o).paid ≡ paid_part told (spent_got o unit l.spent)
  paid_then o = got_paid i o unit told (blocks_of c.width (command_of l)) l.spent l.balance kept.fits.account

  sound_then : IsSound l.rate l.config.object (balance_in i l.balance)
  sound_then = sound_in l.rate l.config.object i l.balance kept.fits.sound

  units_then : (balance_in i l.balance).units ≤ l.before + works l.log + l.spent
  units_then = units_in i (l.before + works l.log + l.spent) l.balance kept.fits.units

  abbrev Later : LocalState → Type 0
  Later x = LocalKept c given (graph_decided g t (command_of l) v) longer new names t x

  told_so : (o : Option Reply) → Event o → part t longer ≡ l.log ++ (entries_of t (command_of l) l.spent o ++ entries_of t (command_of l) (spent_got o unit l.spent) (waiting (graph_decided g t (command_of l) v) p))
  told_so o event =
      event.more ∙ ap (λ x. x ++ told_by g t (command_of l) l.spent v) (kept.told ∙ ap (λ x. l.log ++ entries_of x (command_of l) l.spent (waiting g l.part)) kept.thread)
      ∙ append_assoc l.log _ _ ∙ ap (λ x. l.log ++ x) event.told

  right_so : (o : Option Reply) → Event o → IsRight c.width l.rate (part t longer)
  right_so o event = subst (λ x. IsRight c.width l.rate x) (sym event.more) (right_more c.width l.rate (part t order) g t (command_of l) l.spent v kept.right
      (λ d. event.exact d ∙ ap (λ (x : Config). units_owed x.width l.rate (command_of l)) kept.config))

  -- what its blocks cost is no more than what the largest object does
  price_few : l.rate * blocks_of c.width (command_of l) ≤ l.rate * l.config.object
  price_few = ap-le (λ (x : Config). l.rate * blocks_of x.width (command_of l)) kept.config (price_low l kept.fits)

  due_is : owed l ≡ l.rate * blocks_of c.width (command_of l) + requested_units (command_of l)
  due_is = ap (λ (x : Config). l.rate * blocks_of x.width (command_of l) + requested_units (command_of l)) kept.config

  none_moves : Event None → Later (after_part l.log (balance_then None) (spent_got None unit l.spent) l.made p)
  none_moves event = record {
    config = kept.config;
    thread = refl;
    fresh = kept.fresh;
    trace = kept.trace;
    fits = record {
      bounds = kept.fits.bounds;
      plan = kept.fits.plan;
      rate = kept.fits.rate;
      thread = subst (λ x. x < l.config.threads) kept.thread kept.fits.thread;
      trace = kept.fits.trace;
      life = kept.fits.life;
      log = kept.fits.log;
      part = subst (λ x. PartFits x (length l.log) (length l.trace) q p) (sym kept.config) event.fits;
      paid = subst (λ x. spent_got None unit l.spent + unit_to_come x p ≤ owed l) (sym kept.config) event.low;
      settled = is_made (owed l) (spent_got None unit l.spent) p event.settled;
      sound = sound_on l.rate l.config.object unit told (blocks_of c.width (command_of l)) l.spent (balance_in i l.balance) (paid_in i l.balance ∙ kept.fits.account) price_few (low_enough _ _ _ _ event.low due_is) sound_then;
      account = paid_then None;
      units = units_on unit told (l.before + works l.log) l.spent (balance_in i l.balance) units_then;
      made = kept.fits.made;
      space = kept.fits.space;
      roomy = event.roomy;
    };
    stands = event.stands;
    knows = event.knows;
    behind = event.behind;
    settled = event.settled;
    made = event.counts;
    right = right_so None event;
    told = told_so None event;
    said = kept.said;
  }

  module _ (r : Reply) where
    longer_by : length (l.log ++ entry_of t (command_of l) l.spent r ∷ []) ≡ suc (length l.log)
    longer_by = length-append l.log (entry_of t (command_of l) l.spent r ∷ []) ∙ omega arith

    more_worked : works (l.log ++ entry_of t (command_of l) l.spent r ∷ []) ≡ works l.log + (l.spent + 0)
    more_worked = works_append l.log (entry_of t (command_of l) l.spent r ∷ [])

    -- what it has paid is the price of its command
    price_is : Event (Some r) → (balance_in i l.balance).paid ≡ l.rate * blocks_of c.width (command_of l)
    price_is event = paid_in i l.balance ∙ price_paid l kept.fits (event.whole r refl) ∙ ap (λ (x : Config). l.rate * blocks_of x.width (command_of l)) kept.config

    some_moves : length l.log < length l.trace → Event (Some r) → Later (after_part (l.log ++ entry_of t (command_of l) l.spent r ∷ []) (balance_then (Some r)) 0 (made_got (command_of l) (Some r) l.made) Leave)
    some_moves low event =
        let over : p ≡ Leave = event.over r refl in
        record {
          config = kept.config;
          thread = refl;
          fresh = kept.fresh;
          trace = kept.trace;
          fits = record {
            bounds = kept.fits.bounds;
            plan = kept.fits.plan;
            rate = kept.fits.rate;
            thread = subst (λ x. x < l.config.threads) kept.thread kept.fits.thread;
            trace = kept.fits.trace;
            life = subst (λ n. l.before + works (l.log ++ entry_of t (command_of l) l.spent r ∷ []) + sum_after (units_owed l.config.width l.rate) n l.trace ≤ most_units) (sym longer_by) (omega (arith, more_worked, kept.fits.life, owed_next l, kept.fits.paid));
            log = omega (arith, longer_by);
            part = tt;
            paid = omega arith;
            settled = tt;
            sound = sound_over l.rate l.config.object r (blocks_of c.width (command_of l)) (balance_in i l.balance) (price_is event) sound_then;
            account = paid_over r _ (blocks_of c.width (command_of l)) (balance_in i l.balance);
            units = omega (arith, more_worked, units_over r (blocks_of c.width (command_of l)) (balance_in i l.balance), units_then);
            made = subst (λ n. made_got (command_of l) (Some r) l.made + sum_after objects_of n l.trace ≤ most_objects) (sym longer_by) (omega (arith, made_low (command_of l) r l.made, kept.fits.made, objects_next l));
            space = kept.fits.space;
            roomy = tt;
          };
          stands = tt;
          knows = tt;
          behind = event.behind;
          settled = refl;
          made = event.counts;
          right = right_so (Some r) event;
          told = told_so (Some r) event ∙ ap (λ x. l.log ++ (entry_of t (command_of l) l.spent r ∷ entries_of t (command_of l) 0 (waiting (graph_decided g t (command_of l) v) x))) over
              ∙ sym (append-nil (l.log ++ entry_of t (command_of l) l.spent r ∷ []));
          said = said_more l.log l.trace (entry_of t (command_of l) l.spent r) (command_of l) refl refl low kept.said;
        }

  pub local_moves : (o : Option Reply) → Event o → Later (after_part (l.log ++ entries_of t (command_of l) l.spent o) (balance_then o) (spent_got o unit l.spent) (made_got (command_of l) o l.made) p)
  local_moves None event = subst (λ x. Later (after_part x (balance_then None) (spent_got None unit l.spent) l.made p)) (sym (append-nil l.log)) (none_moves event)
  local_moves (Some r) event = subst (λ x. Later (after_part (l.log ++ entry_of t (command_of l) l.spent r ∷ []) (balance_then (Some r)) 0 (made_got (command_of l) (Some r) l.made) x)) (sym (event.over r refl)) (some_moves r (event.some r refl) event)
