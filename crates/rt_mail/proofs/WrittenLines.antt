-- The lines, piece by piece.
use Rattle.std.proofs.Common.{◌≡◌, ◌≢◌, ℕ, zero, suc, ◌+◌, ◌<◌, ◌≤◌, List, [], ◌∷◌, ◌++◌, length, drop, get_or, Option, codes, sym, refl, ap, ◌∙◌, subst, append_assoc, append-nil}
use Rattle.std.specs.List.{flat_map}
use Rattle.std.proofs.lemmas.List.{at_drop_more, drop_all}
use Rattle.trace_text.specs.Streams.{Appends, AppendsPrefix}
use Rattle.trace_text.proofs.AppendedTexts.{appends_none, appends_in_turn, front_in_turn, front_longer}
use Rattle.rt_mail.specs.Tellings.{number_text, last_text, mail_line, lines_from}

-- what was written, and that with the lines that are left it is all lines
pub record IsWrittenTo
    (old now : Option (List ℕ)) (taken last : List (List ℕ)) (t : ℕ) : Type 0 where
  pub done : List ℕ
  pub appended : Appends old now done
  pub rest : done ++ lines_from t (drop t taken) (drop t last) ≡ lines_from 0 taken last

pub written_none : (held : Option (List ℕ)) (taken last : List (List ℕ))
    → IsWrittenTo held held taken last 0
written_none held taken last = record { done = []; appended = appends_none held; rest = refl }

none_left : (t : ℕ) (taken : List (List ℕ)) → lines_from t taken [] ≡ []
none_left t [] = refl
none_left t (vs ∷ taken) = refl

module _ (a b : Option (List ℕ)) (taken last : List (List ℕ)) (t : ℕ)
    (so_far : IsWrittenTo a b taken last t) where
  pub written_all : length last ≤ t → Appends a b (lines_from 0 taken last)
  written_all past =
      subst (λ (text : List ℕ). Appends a b text)
      (sym (append-nil so_far.done)
      ∙ ap (λ (l : List ℕ). so_far.done ++ l) (sym (none_left t (drop t taken)))
      ∙ ap (λ (l : List (List ℕ)). so_far.done ++ lines_from t (drop t taken) l)
      (sym (drop_all t last past))
      ∙ so_far.rest) so_far.appended

  module _ (c : Option (List ℕ)) (vs ns : List ℕ) (low : t < length last)
      (there : t < length taken) (at : vs ≡ get_or taken t []) (is : ns ≡ get_or last t ns) where
    abbrev line : List ℕ
    line = mail_line t (length vs) ns

    abbrev others : List ℕ
    others = lines_from (t + 1) (drop (t + 1) taken) (drop (t + 1) last)

    next : so_far.done ++ (line ++ others) ≡ lines_from 0 taken last
    next =
        (λ i. so_far.done ++ (mail_line t (length (at i)) (is i) ++ others))
        ∙ sym (at_drop_more (λ (l : List (List ℕ)).
        so_far.done ++ lines_from t (get_or taken t [] ∷ drop (t + 1) taken) l) last t ns low)
        ∙ sym (at_drop_more (λ (l : List (List ℕ)).
        so_far.done ++ lines_from t l (drop t last)) taken t [] there)
        ∙ so_far.rest

    pub written_more : Appends b c line → IsWrittenTo a c taken last (t + 1)
    written_more put = record {
      done = so_far.done ++ line;
      appended = appends_in_turn a b c so_far.done line so_far.appended put;
      rest = append_assoc so_far.done line others ∙ next;
    }

    pub written_front : AppendsPrefix b c line → AppendsPrefix a c (lines_from 0 taken last)
    written_front put =
        subst (λ (text : List ℕ). AppendsPrefix a c text) next
        (front_in_turn a b c so_far.done (line ++ others) so_far.appended
        (front_longer b c line others put))

-- ---- a line of three pieces

-- of a number of them that is not 0
pub last_is : (k : ℕ) (last : List ℕ) → k ≢ 0
    → codes " last" ++ flat_map number_text last ≡ last_text k last
last_is zero last some = absurd (some refl)
last_is (suc k) last some = refl

module _ (a b c d : Option (List ℕ)) (xs ys zs : List ℕ) where
  pub three_in_turn : Appends a b xs → Appends b c ys → Appends c d zs
      → Appends a d (xs ++ ys ++ zs)
  three_in_turn h i j =
      appends_in_turn a c d (xs ++ ys) zs (appends_in_turn a b c xs ys h i) j

  pub first_front : AppendsPrefix a b xs → AppendsPrefix a b (xs ++ ys ++ zs)
  first_front h = front_longer a b (xs ++ ys) zs (front_longer a b xs ys h)

  pub second_front : Appends a b xs → AppendsPrefix b c ys → AppendsPrefix a c (xs ++ ys ++ zs)
  second_front h i = front_longer a c (xs ++ ys) zs (front_in_turn a b c xs ys h i)

  pub third_front : Appends a b xs → Appends b c ys → AppendsPrefix c d zs
      → AppendsPrefix a d (xs ++ ys ++ zs)
  third_front h i j =
      front_in_turn a c d (xs ++ ys) zs (appends_in_turn a b c xs ys h i) j
