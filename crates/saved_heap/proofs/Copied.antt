-- Commands of a plan that are done one after the other.
use Rattle.std.proofs.Common.{◌≡◌, ℕ, suc, ◌+◌, ◌-◌, ◌<◌, ◌≤◌, min, true, false, cond, List, [], ◌∷◌, ◌++◌, length, take, drop, get_or, refl, sym, ap, ◌∙◌, subst, arith}
use Rattle.std.proofs.Math.Seq.{take-add, take-length, take-suc}
use Rattle.std.proofs.lemmas.List.{length-drop, take_more, take_rest}
use Rattle.never_heap.specs.declared.Command.{Command}
use Rattle.never_heap.specs.declared.Reply.{Reply}
use Rattle.never_heap.specs.Graphs.{Graph, start_graph}
use Rattle.never_heap.specs.Histories.{Started, is_full, replay}
use Rattle.never_heap.specs.Steps.{step}
use Rattle.block_store.specs.declared.Config.{Config}
use Rattle.heap_system.specs.Machines.{Run}
use Rattle.saved_heap.specs.heap_pictures.Pictures.{Content, graph_of, is_sound}
use Rattle.saved_heap.specs.heap_pictures.Plans.{graph_after, plan_of}
use Rattle.saved_heap.specs.heap_pictures.UpToNames.{AreOneUpToNames}
use Rattle.saved_heap.proofs.heap_pictures.Building.{after_append}
use Rattle.control_heap.specs.Controls.{Control, HasAnswered, Stands}
use Rattle.control_heap.specs.WayBack.{AllDone, NoneFull}
use Rattle.control_heap.specs.graph_view.RunsOfCommands.{HasDone, HasDoneAll}
use Rattle.control_heap.specs.graph_view.ShownGraph.{Goes, Leaves}
use Rattle.saved_heap.specs.declared.faults.CopyFault.{CopyFault}
use Rattle.saved_heap.specs.declared.faults.CopyFault.TheVariants as copy_faults
use Rattle.saved_heap.specs.Faults.{IsCopyFault, StopsAt}
use Rattle.saved_heap.specs.Renewals.{HasBuilt, HasCopied, ShowsPicture}

-- a reply that is not `Full` leaves the graph after the command
pub went : (old : Control) (k : Command) (reply : Reply) (new : Control) → is_full reply ≡ false → Goes old k reply new
    → (g : Graph) → Leaves old g → Leaves new (step g 0 k).0
went old k reply new none goes g leaves = subst (λ b. Leaves new (cond b g (step g 0 k).0)) none (goes g leaves).1

pub stayed : (old : Control) (k : Command) (reply : Reply) (new : Control) → is_full reply ≡ true → Goes old k reply new
    → (g : Graph) → Leaves old g → Leaves new g
stayed old k reply new full goes g leaves = subst (λ b. Leaves new (cond b g (step g 0 k).0)) full (goes g leaves).1

-- ---- commands of which none was answered `Full`

pub built_none : (h : Control) → HasBuilt h [] h
built_none h = record { done = refl; replies = []; answered = refl; none_full = tt }

pub built_one : (h z : Control) (k : Command) (a : Reply) → is_full a ≡ false → HasDone h k z → HasAnswered h k a z
    → HasBuilt h (k ∷ []) z
built_one h z k a none one told = record {
  done = (z, one, refl);
  replies = a ∷ [];
  answered = (z, one.config, one.can.0, one.can.1, told, refl);
  none_full = (none, tt);
}

done_on : (ks js : List Command) (h m z : Control) → HasDoneAll h ks m → HasDoneAll m js z → HasDoneAll h (ks ++ js) z
done_on [] js h m z is rest = subst (λ x. HasDoneAll x js z) (sym is) rest
done_on (k ∷ ks) js h m z all rest = (all.0, all.1, done_on ks js all.0 m z all.2 rest)

pub answered_on : (ks js : List Command) (ys xs : List Reply) (h m z : Control) → AllDone h ks ys m → AllDone m js xs z
    → AllDone h (ks ++ js) (ys ++ xs) z
answered_on [] js [] xs h m z is rest = subst (λ x. AllDone x js xs z) (sym is) rest
answered_on [] js (a ∷ ys) xs h m z none rest = absurd none
answered_on (k ∷ ks) js [] xs h m z none rest = absurd none
answered_on (k ∷ ks) js (a ∷ ys) xs h m z all rest =
    (all.0, all.1, all.2, all.3, all.4, answered_on ks js ys xs all.0 m z all.5 rest)

none_on : (ys xs : List Reply) → NoneFull ys → NoneFull xs → NoneFull (ys ++ xs)
none_on [] xs none rest = rest
none_on (a ∷ ys) xs none rest = (none.0, none_on ys xs none.1 rest)

built_on : (h m z : Control) (ks js : List Command) → HasBuilt h ks m → HasBuilt m js z → HasBuilt h (ks ++ js) z
built_on h m z ks js all rest = record {
  done = done_on ks js h m z all.done rest.done;
  replies = all.replies ++ rest.replies;
  answered = answered_on ks js all.replies rest.replies h m z all.answered rest.answered;
  none_full = none_on all.replies rest.replies all.none_full rest.none_full;
}

pub built_more : (h m z : Control) (ks : List Command) (i : ℕ) (d : Command) → i < length ks → HasBuilt h (take i ks) m
    → HasBuilt m (get_or ks i d ∷ []) z → HasBuilt h (take (i + 1) ks) z
built_more h m z ks i d low all one =
    subst (λ l. HasBuilt h l z) (sym (take_more ks i d low)) (built_on h m z (take i ks) (get_or ks i d ∷ []) all one)

-- ---- the graph after them

-- one command more
pub one_more : (g : Graph) (ks : List Command) (i : ℕ) (d : Command) → i < length ks
    → graph_after g (take (i + 1) ks) ≡ (step (graph_after g (take i ks)) 0 (get_or ks i d)).0
one_more g ks i d low =
    let same : i + 1 ≡ suc i = omega arith in
    ap (λ j. graph_after g (take j ks)) same ∙ ap (graph_after g) (take-suc ks i d low)
    ∙ after_append g (take i ks) (get_or ks i d ∷ [])

pub leaves_more : (h m z : Control) (ks : List Command) (i : ℕ) (d : Command) → i < length ks
    → ((g : Graph) → Leaves h g → Leaves m (graph_after g (take i ks)))
    → ((g : Graph) → Leaves m g → Leaves z (step g 0 (get_or ks i d)).0)
    → (g : Graph) → Leaves h g → Leaves z (graph_after g (take (i + 1) ks))
leaves_more h m z ks i d low before one g leaves =
    subst (Leaves z) (sym (one_more g ks i d low)) (one (graph_after g (take i ks)) (before g leaves))

-- so many commands more
pub many_more : (g : Graph) (ks : List Command) (i n : ℕ)
    → graph_after g (take (i + n) ks) ≡ graph_after (graph_after g (take i ks)) (take n (drop i ks))
many_more g ks i n =
    ap (graph_after g) (take-add i n ks) ∙ after_append g (take i ks) (take n (drop i ks))

-- after a fault it is unchanged
pub copy_keeps : (old new : Control) (k : Command) (f : CopyFault) → IsCopyFault old k new f → (g : Graph) → Leaves old g → Leaves new g
copy_keeps old new k (copy_faults.Full c) fault g leaves = fault.2 g leaves
copy_keeps old new k (copy_faults.Refused r) fault g leaves = subst (λ h. Leaves h g) (sym fault.1) leaves

-- ---- a copy that goes on

pub copied_more : (old new : Control) (ks rest : List Command) (i n most room : ℕ) → rest ≡ drop i ks
    → i ≤ length ks → n ≤ min most (length rest) → new.config ≡ old.config
    → Leaves old (graph_after (start_graph old.config) (take i ks))
    → ((g : Graph) → Leaves old g → Leaves new (graph_after g (take n rest)))
    → HasCopied (record { heap = new; commands = ks; done = i + n; room = room })
copied_more old new ks rest i n most room is low few config leaves on =
    let first : Graph = graph_after (start_graph old.config) (take i ks) in
    let left : length rest ≡ length ks - i = ap length is ∙ length-drop i ks in
    record {
      few = omega (arith, low, few, left);
      leaves = subst (Leaves new)
          (sym (ap (λ c. graph_after (start_graph c) (take (i + n) ks)) config
          ∙ many_more (start_graph old.config) ks i n
          ∙ ap (λ l. graph_after first (take n l)) (sym is)))
          (on first leaves);
    }

pub stops_there : (h new : Control) (rest ks : List Command) (n m : ℕ) (f : CopyFault) → rest ≡ ks → n ≡ m
    → StopsAt h rest n new f → StopsAt h ks m new f
stops_there h new rest ks n m f is same stops =
    subst (λ j. StopsAt h ks j new f) same (subst (λ l. StopsAt h l n new f) is stops)

-- all that were left
pub all_built : (h z y : Control) (ks plan : List Command) (i j : ℕ) → i ≡ 0 → j ≡ length ks → ks ≡ plan → y ≡ z
    → HasBuilt h (take (j - i) (drop i ks)) z → HasBuilt h plan y
all_built h z y ks plan i j none all is same built =
    subst (λ x. HasBuilt h plan x) (sym same)
    (subst (λ l. HasBuilt h l z)
    (ap (λ m. take (m - i) (drop i ks)) all ∙ take_rest ks i ∙ ap (λ m. drop m ks) none ∙ is) built)

-- a heap that was just opened
pub opened : (c : Config) (h : Control) → h.config ≡ c → (r : Run) → Stands h r → r.order ≡ Started ∷ [] → Leaves h (start_graph h.config)
opened c h config r st order = record { run = r; stands = st; graph = ap (replay h.config) order }

-- all commands of a plan are done
pub shown : (built : (c : Config) (p : Content) → c.threads ≡ 1 → is_sound p ≡ true → AreOneUpToNames (graph_of p) (graph_after (start_graph c) (plan_of p)))
    (single : (h : Control) (r : Run) → Stands h r → h.config.threads ≡ 1)
    (h : Control) (ks : List Command) (n : ℕ) → n ≡ length ks → Leaves h (graph_after (start_graph h.config) (take n ks)) → ShowsPicture ks h
shown built single h ks n all leaves p sound is = record {
  graph = graph_after (start_graph h.config) (take n ks);
  leaves = leaves;
  one = subst (λ l. AreOneUpToNames (graph_of p) (graph_after (start_graph h.config) l)) (sym (ap (λ j. take j ks) all ∙ take-length ks ∙ is))
      (built h.config p (single h leaves.run leaves.stands) sound);
}
