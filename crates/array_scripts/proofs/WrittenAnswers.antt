-- The answers of one thread more were written.
use Rattle.std.proofs.Common.{◌≡◌, ℕ, ◌+◌, ◌<◌, ◌≤◌, List, [], ◌++◌, length, drop, get_or, Option, sym, refl, ap, ◌∙◌, subst, append_assoc, append-nil}
use Rattle.std.specs.List.{flat_map}
use Rattle.std.proofs.lemmas.List.{at_drop_more, drop_all}
use Rattle.trace_text.specs.Streams.{Appends, AppendsPrefix}
use Rattle.trace_text.proofs.AppendedTexts.{appends_none, appends_in_turn, front_in_turn, front_longer}
use Rattle.array_scripts.specs.Tellings.{answer_line, lines_from}

module _ {T : Type 0} (text : T → List ℕ) where
  -- what was written, and that with the lines that are left it is all lines
  pub record IsWrittenTo (old now : Option (List ℕ)) (told : List (List T)) (t : ℕ) : Type 0 where
    pub done : List ℕ
    pub appended : Appends old now done
    pub rest : done ++ lines_from text t (drop t told) ≡ lines_from text 0 told

  pub written_none : (held : Option (List ℕ)) (told : List (List T)) → IsWrittenTo held held told 0
  written_none held told = record { done = []; appended = appends_none held; rest = refl }

  module _ (a b : Option (List ℕ)) (told : List (List T)) (t : ℕ) (so_far : IsWrittenTo a b told t)
    where
      pub written_all : length told ≤ t → Appends a b (lines_from text 0 told)
      written_all past =
          subst (λ (bytes : List ℕ). Appends a b bytes)
          (sym (append-nil so_far.done)
          ∙ ap (λ (l : List (List T)). so_far.done ++ lines_from text t l)
          (sym (drop_all t told past))
          ∙ so_far.rest) so_far.appended

      module _ (c : Option (List ℕ)) (tags : List T) (low : t < length told)
          (is : tags ≡ get_or told t tags) where
        abbrev lines : List ℕ
        lines = flat_map (answer_line text t) tags

        abbrev others : List ℕ
        others = lines_from text (t + 1) (drop (t + 1) told)

        next : so_far.done ++ (lines ++ others) ≡ lines_from text 0 told
        next =
            ap (λ (x : List T). so_far.done ++ (flat_map (answer_line text t) x ++ others)) is
            ∙ sym (at_drop_more (λ (l : List (List T)). so_far.done ++ lines_from text t l)
            told t tags low)
            ∙ so_far.rest

        pub written_more : Appends b c lines → IsWrittenTo a c told (t + 1)
        written_more put = record {
          done = so_far.done ++ lines;
          appended = appends_in_turn a b c so_far.done lines so_far.appended put;
          rest = append_assoc so_far.done lines others ∙ next;
        }

        pub written_front : AppendsPrefix b c lines → AppendsPrefix a c (lines_from text 0 told)
        written_front put =
            subst (λ (bytes : List ℕ). AppendsPrefix a c bytes) next
            (front_in_turn a b c so_far.done (lines ++ others) so_far.appended
            (front_longer b c lines others put))
