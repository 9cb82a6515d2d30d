-- Commands that are left lead on by the next of them, and at the end they led to it.
use Rattle.std.proofs.Common.{◌≡◌, ℕ, ◌+◌, ◌<◌, List, [], ◌∷◌, drop, length, get_or, inr, refl, sym, ap, ◌∙◌, subst}
use Rattle.std.proofs.lemmas.List.{drop_more}
use Rattle.never_heap.specs.declared.Command.{Command}
use Rattle.never_heap.specs.declared.Reply.{Reply}
use Rattle.never_heap.specs.Graphs.{Graph}
use Rattle.never_heap.specs.Steps.{step}
use Rattle.never_heap.specs.declared.Reply.TheVariants.{Stored}
use Rattle.control_heap.specs.Controls.{Control, HasAnswered}
use Rattle.control_heap.specs.declared.control.Refused.{Refused}
use Rattle.control_heap.specs.WayBack.{AllDone}
use Rattle.control_heap.specs.graph_view.RunsOfCommands.{HasDone, HasDoneAll, HasReplied, RefusesOne, last_told}
use Rattle.control_heap.specs.graph_view.ShownGraph.{AllFollow, Follows, IsSmall, Leads, last_reply}

module _ (R : Control → Graph → Type 0) (old now new : Control) (ks : List Command) where
  leads_next : (same : now.config ≡ old.config) (reply a : Reply) (k : Command) (rest : List Command)
      → Follows R now k a new → Leads R old ks now reply (k ∷ rest) → Leads R old ks new a rest
  leads_next same reply a k rest follows leads g shown small =
      let l = leads g shown small in
      let f = follows l.0 l.1 (subst (λ c. IsSmall c (step l.0 0 k).0) (sym same) l.2.0) in
      ((step l.0 0 k).0, f.1, l.2.1, l.3, ap (λ x. last_reply x (step l.0 0 k).0 rest) f.0 ∙ l.4)

  pub leads_on : (same : now.config ≡ old.config) (reply a : Reply) (i : ℕ) (d : Command) → i < length ks
      → Follows R now (get_or ks i d) a new → Leads R old ks now reply (drop i ks) → Leads R old ks new a (drop (i + 1) ks)
  leads_on same reply a i d low follows leads =
      leads_next same reply a (get_or ks i d) (drop (i + 1) ks) follows
      (subst (λ x. Leads R old ks now reply x) (drop_more ks i d low) leads)

pub led : (R : Control → Graph → Type 0) (old now : Control) (ks : List Command) (reply : Reply) (rest : List Command)
    → rest ≡ [] → Leads R old ks now reply rest → AllFollow R old ks reply now
led R old now ks reply rest none leads g shown small =
    let l = subst (λ x. Leads R old ks now reply x) none leads g shown small in
    (l.4, subst (R now) l.3 l.1)

-- and of what was done, and of where it stops
pub done_on : (old now new : Control) (ks : List Command) (i : ℕ) (d : Command) → i < length ks
    → HasDone now (get_or ks i d) new
    → ((z : Control) → HasDoneAll now (drop i ks) z → HasDoneAll old ks z)
    → (z : Control) → HasDoneAll new (drop (i + 1) ks) z → HasDoneAll old ks z
done_on old now new ks i d low done before z rest =
    before z (subst (λ x. HasDoneAll now x z) (sym (drop_more ks i d low)) (new, done, rest))

pub refused_on : (old now new : Control) (ks : List Command) (i : ℕ) (d : Command) → i < length ks
    → HasDone now (get_or ks i d) new
    → ((r : Refused) (z : Control) → RefusesOne now (drop i ks) r z → RefusesOne old ks r z)
    → (r : Refused) (z : Control) → RefusesOne new (drop (i + 1) ks) r z → RefusesOne old ks r z
refused_on old now new ks i d low done before r z rest =
    before r z (subst (λ x. RefusesOne now x r z) (sym (drop_more ks i d low)) (inr (new, done, rest)))

-- and of the replies
pub replied_on : (old now new : Control) (ks : List Command) (reply a : Reply) (i : ℕ) (d : Command)
    → i < length ks → HasDone now (get_or ks i d) new → HasAnswered now (get_or ks i d) a new
    → ((z : Control) (ys : List Reply) → AllDone now (drop i ks) ys z
    → (all : List Reply) × AllDone old ks all z × (last_told reply ys ≡ last_told Stored all))
    → (z : Control) (ys : List Reply) → AllDone new (drop (i + 1) ks) ys z
    → (all : List Reply) × AllDone old ks all z × (last_told a ys ≡ last_told Stored all)
replied_on old now new ks reply a i d low done answered before z ys rest =
    before z (a ∷ ys) (subst (λ x. AllDone now x (a ∷ ys) z) (sym (drop_more ks i d low))
    (new, done.config, done.can.0, done.can.1, answered, rest))

pub replied : (old now : Control) (ks : List Command) (reply : Reply) (rest : List Command)
    → rest ≡ []
    → ((z : Control) (ys : List Reply) → AllDone now rest ys z
    → (all : List Reply) × AllDone old ks all z × (last_told reply ys ≡ last_told Stored all))
    → HasReplied old ks reply now
replied old now ks reply rest none before =
    before now [] (subst (λ x. AllDone now x [] now) (sym none) refl)
