-- Two lookups that go on from one past make the same calls.
use Rattle.std.proofs.Common.{◌≡◌, ℕ, zero, suc, true, false, List, [], ◌∷◌, ◌++◌, slice_get, take, inl, inr, refl, sym, ap, ◌∙◌, subst, append_assoc, append-nil, Some}
use Rattle.std.specs.Bool.{⊤}
use Rattle.std.proofs.lemmas.Bool.{both_ways}
use Rattle.std.proofs.lemmas.List.{map-append}
use Rattle.orc_ids.specs.declared.ids.QueryId.{QueryId}
use Rattle.session_model.specs.Answer.{Answers, AnswersCollect}
use Rattle.session_model.specs.Calls.{AfterTake, EndsAsk, IsJob, Lookup, Looks, Works, is_collected}
use Rattle.session_model.specs.Calls.{Asks, Again, Collects, Job as AJob}
use Rattle.session_model.specs.Meaning.{Meaning}
use Rattle.session_model.specs.State.{state, IsOpen}
use Rattle.session_model.specs.declared.entry.Entry.{Entry}
use Rattle.session_model.specs.declared.entry.Event.TheVariants as event
use Rattle.session_model.specs.declared.entry.Reply.{Reply}
use Rattle.session_model.specs.declared.entry.Reply.TheVariants as reply
use Rattle.session_model.specs.declared.rows.Ending.TheVariants.{Found, Lost}
use Rattle.session_model.specs.declared.rows.Query.{Query}
use Rattle.session_laws.proofs.Declared.{open_has_no_end}
use Rattle.session_laws.specs.Entries.{entries}
use Rattle.one_log.proofs.Fronts.{Same, left, same_behind, same_far, same_inside, same_turned}
use Rattle.one_log.proofs.Phases.{Goes, after_take, step_on}

-- the first m calls have their numbers in the history, which goes on from the past with them
abbrev pub Stands : List (Entry Meaning) → ℕ → List (Entry Meaning) → List (ℕ × Entry Meaning) → Type 0
Stands h zero past cs = ⊤
Stands h (suc m) past [] = ⊤
Stands h (suc m) past (c ∷ cs) = (take c.0 h ≡ past ++ c.1 ∷ []) × Stands h m (past ++ c.1 ∷ []) cs

-- as far as anything is known, call n was the last of the past
abbrev pub StandsAt : List (Entry Meaning) → ℕ → ℕ → List (Entry Meaning) → Type 0
StandsAt h zero n past = ⊤
StandsAt h (suc m) n past = take n h ≡ past

stands_at : (h : List (Entry Meaning)) (m n : ℕ) (past : List (Entry Meaning)) → take n h ≡ past → StandsAt h m n past
stands_at h zero n past e = tt
stands_at h (suc m) n past e = e

pub stands_behind : (h : List (Entry Meaning)) (m : ℕ) (past : List (Entry Meaning)) (cs ds : List (ℕ × Entry Meaning)) → Stands h m past (cs ++ ds) → Stands h (left m (entries cs)) (past ++ entries cs) ds
stands_behind h m past [] ds s = subst (λ p. Stands h m p ds) (sym (append-nil past)) s
stands_behind h zero past (c ∷ cs) ds s = tt
stands_behind h (suc m) past (c ∷ cs) ds s = subst (λ p. Stands h (left m (entries cs)) p ds) (append_assoc past (c.1 ∷ []) (entries cs)) (stands_behind h m (past ++ c.1 ∷ []) cs ds s.1)

stands_last : (h : List (Entry Meaning)) (m : ℕ) (past : List (Entry Meaning)) (before : List (ℕ × Entry Meaning)) (last : ℕ × Entry Meaning) (ds : List (ℕ × Entry Meaning)) → Stands h m past ((before ++ last ∷ []) ++ ds) →
    StandsAt h (left m (entries (before ++ last ∷ []))) last.0 (past ++ entries (before ++ last ∷ []))
stands_last h zero past [] last ds s = tt
stands_last h (suc m) past [] last ds s = stands_at h m last.0 (past ++ last.1 ∷ []) s.0
stands_last h zero past (c ∷ cs) last ds s = tt
stands_last h (suc m) past (c ∷ cs) last ds s = subst (StandsAt h (left m (entries (cs ++ last ∷ []))) last.0) (append_assoc past (c.1 ∷ []) (entries (cs ++ last ∷ []))) (stands_last h m (past ++ c.1 ∷ []) cs last ds s.1)

module _ (jmax : ℕ) (who : List (Entry Meaning) → ℕ) where
  pub goes_front : (m : ℕ) (past f g : List (Entry Meaning)) → Goes jmax who m past (f ++ g) → Goes jmax who m past f
  goes_front zero past f g a = tt
  goes_front (suc m) past [] g a = tt
  goes_front (suc m) past (e ∷ f) g a = (a.0, goes_front m (past ++ e ∷ []) f g a.1)

  pub goes_behind : (m : ℕ) (past f g : List (Entry Meaning)) → Goes jmax who m past (f ++ g) → Goes jmax who (left m f) (past ++ f) g
  goes_behind m past [] g a = subst (λ p. Goes jmax who m p g) (sym (append-nil past)) a
  goes_behind zero past (e ∷ f) g a = tt
  goes_behind (suc m) past (e ∷ f) g a = subst (λ p. Goes jmax who (left m f) p g) (append_assoc past (e ∷ []) f) (goes_behind m (past ++ e ∷ []) f g a.1)

  -- what is known of the calls of one side
  pub record Side (h : List (Entry Meaning)) (m : ℕ) (past : List (Entry Meaning)) (cs : List (ℕ × Entry Meaning)) : Type 0 where
    pub goes : Goes jmax who m past (entries cs)
    pub stands : Stands h m past cs

  front_side : (h : List (Entry Meaning)) (m : ℕ) (past : List (Entry Meaning)) (cs ds : List (ℕ × Entry Meaning)) → Side h m past (cs ++ ds) → Goes jmax who m past (entries cs)
  front_side h m past cs ds a = goes_front m past (entries cs) (entries ds) (subst (Goes jmax who m past) (map-append (λ (c : ℕ × Entry Meaning). c.1) cs ds) a.goes)

  pub side_behind : (h : List (Entry Meaning)) (m : ℕ) (past : List (Entry Meaning)) (cs ds : List (ℕ × Entry Meaning)) → Side h m past (cs ++ ds) → Side h (left m (entries cs)) (past ++ entries cs) ds
  side_behind h m past cs ds a = record {
    goes = goes_behind m past (entries cs) (entries ds) (subst (Goes jmax who m past) (map-append (λ (c : ℕ × Entry Meaning). c.1) cs ds) a.goes);
    stands = stands_behind h m past cs ds a.stands;
  }

  -- A job

  pub stands_front : (h : List (Entry Meaning)) (m : ℕ) (past : List (Entry Meaning)) (cs ds : List (ℕ × Entry Meaning)) → Stands h m past (cs ++ ds) → Stands h m past cs
  stands_front h zero past cs ds s = tt
  stands_front h (suc m) past [] ds s = tt
  stands_front h (suc m) past (c ∷ cs) ds s = (s.0, stands_front h m (past ++ c.1 ∷ []) cs ds s.1)

  job : (h g : List (Entry Meaning)) (m : ℕ) (past : List (Entry Meaning)) (cs ds : List (ℕ × Entry Meaning)) → Side h m past cs → Side g m past ds → IsJob h cs → IsJob g ds → Same m (entries cs) (entries ds)
  job h g m past [] ds a b p q = absurd p
  job h g m past (c ∷ cs) [] a b p q = absurd q
  job h g zero past (c ∷ cs) (d ∷ ds) a b p q = same_far c.1 d.1 (entries cs) (entries ds)
  job h g (suc k) past (c ∷ cs) (d ∷ ds) a b p q = step_on jmax who k past c.1 d.1 (entries cs) (entries ds) (λ x y. p.0 ∙ sym q.0) a.goes b.goes
      (λ is r x y. after_take jmax who past c.1 c.1.reply k (entries cs) (entries ds) r p.0 refl x y
      (subst (λ l. AfterTake (state l) c.1.reply (entries cs)) a.stands.0 p.1)
      (subst (λ (e : Entry Meaning). AfterTake (state (past ++ e ∷ [])) e.reply (entries ds)) (sym is) (subst (λ l. AfterTake (state l) d.1.reply (entries ds)) b.stands.0 q.1)))

  -- Jobs until the query's end

  collected_end : {P : Type 0} (past : List (Entry Meaning)) (q : ℕ) (r : Reply) (x : Query) → slice_get (state past).queries q ≡ Some x → IsOpen past x → is_collected r ≡ true → AnswersCollect past (state past) q r → P
  collected_end past q (reply.Found n matches) x there unmet got a = absurd (open_has_no_end past q n x (Found matches) there unmet a)
  collected_end past q (reply.Lost n i) x there unmet got a = absurd (open_has_no_end past q n x (Lost i) there unmet a)
  collected_end past q _ x there unmet got a = absurd (both_ways false refl got)

  -- it is collected on one side while on the other it is open
  apart : (h : List (Entry Meaning)) (q : QueryId) (m n : ℕ) (past : List (Entry Meaning)) (e : Entry Meaning) (x : Query) (es : List (Entry Meaning)) → Goes jmax who m past (e ∷ es) → e.event ≡ event.Collect q → is_collected e.reply ≡ true →
      StandsAt h m n past → slice_get (state (take n h)).queries q.0 ≡ Some x → IsOpen (take n h) x → (y : Entry Meaning) (ys : List (Entry Meaning)) → Same m (e ∷ es) (y ∷ ys)
  apart h q zero n past e x es a is got at there unmet y ys = same_far e y es ys
  apart h q (suc k) n past e x es a is got at there unmet y ys = collected_end past q.0 e.reply x (subst (λ l. slice_get (state l).queries q.0 ≡ Some x) at there) (subst (λ l. IsOpen l x) at unmet) got
      (subst (λ v. Answers jmax past (state past) (who past) v e.reply) is a.0.answers)

  -- a job has a first entry
  job_first : (h : List (Entry Meaning)) (before : List (ℕ × Entry Meaning)) (last : ℕ × Entry Meaning) (rest : List (ℕ × Entry Meaning)) → (y : Entry Meaning) × (ys : List (Entry Meaning)) × (entries (before ++ last ∷ rest) ≡ y ∷ ys)
  job_first h [] last rest = (last.1, entries rest, refl)
  job_first h (b ∷ bs) last rest = (b.1, entries (bs ++ last ∷ rest), refl)

  works : (h g : List (Entry Meaning)) (q : QueryId) (m n k : ℕ) (past : List (Entry Meaning)) (cs ds : List (ℕ × Entry Meaning)) → Side h m past cs → Side g m past ds → StandsAt h m n past → StandsAt g m k past → Works h q n cs → Works g q k ds → Same m (entries cs) (entries ds)
  works h g q zero n k past cs ds a b s t (Collects n' i e is got) (Collects k' j d ie god) = same_far e d [] []
  works h g q (suc m) n k past cs ds a b s t (Collects n' i e is got) (Collects k' j d ie god) = step_on jmax who m past e d [] [] (λ x y. is ∙ sym ie) a.goes b.goes (λ same r x y. inl refl)
  works h g q m n k past cs ds a b s t (Collects n' i e is got) (AJob k' j x last before rest there unmet job_is more) =
      let p = job_first g before last rest in
      subst (Same m (e ∷ [])) (sym p.2) (apart g q m k past e x [] a.goes is got t there unmet p.0 p.1)
  works h g q m n k past cs ds a b s t (AJob n' i x last before rest there unmet job_is more) (Collects k' j d ie god) =
      let p = job_first h before last rest in
      subst (λ l. Same m l (d ∷ [])) (sym p.2) (same_turned m (d ∷ []) (p.0 ∷ p.1) (apart h q m n past d x [] b.goes ie god s there unmet p.0 p.1))
  works h g q m n k past cs ds a b s t (AJob n' i x last before rest there unmet job_is more) (AJob k' j y last' before' rest' there' unmet' job_is' more') =
      subst (λ l. Same m l (entries (before' ++ last' ∷ rest'))) (split before last rest) (subst (Same m (entries one ++ entries rest)) (split before' last' rest')
      (by_job (λ i p v w j z. works h g q i last.0 last'.0 p rest rest' v w j z more more')
      (job h g m past one two (record { goes = front_side h m past one rest left_side; stands = stands_front h m past one rest left_side.stands }) (record { goes = front_side g m past two rest' right_side; stands = stands_front g m past two rest' right_side.stands }) job_is job_is')))
    where
      one : List (ℕ × Entry Meaning)
      one = before ++ last ∷ []

      two : List (ℕ × Entry Meaning)
      two = before' ++ last' ∷ []

      split : (front : List (ℕ × Entry Meaning)) (c : ℕ × Entry Meaning) (back : List (ℕ × Entry Meaning)) → entries (front ++ c ∷ []) ++ entries back ≡ entries (front ++ c ∷ back)
      split front c back = sym (map-append (λ (d : ℕ × Entry Meaning). d.1) (front ++ c ∷ []) back) ∙ ap entries (append_assoc front (c ∷ []) back)

      left_side : Side h m past (one ++ rest)
      left_side = subst (Side h m past) (sym (append_assoc before (last ∷ []) rest)) a

      right_side : Side g m past (two ++ rest')
      right_side = subst (Side g m past) (sym (append_assoc before' (last' ∷ []) rest')) b

      by_job : ((i : ℕ) (p : List (Entry Meaning)) → Side h i p rest → Side g i p rest' → StandsAt h i last.0 p → StandsAt g i last'.0 p → Same i (entries rest) (entries rest')) →
          Same m (entries one) (entries two) → Same m (entries one ++ entries rest) (entries two ++ entries rest')
      by_job onwards (inr p) = same_inside m (entries one) (entries two) (entries rest) (entries rest') p
      by_job onwards (inl e) = subst (λ l. Same m (entries one ++ entries rest) (l ++ entries rest')) e (same_behind m (entries one) (entries rest) (entries rest')
          (onwards (left m (entries one)) (past ++ entries one) (side_behind h m past one rest left_side) (subst (λ l. Side g (left m l) (past ++ l) rest') (sym e) (side_behind g m past two rest' right_side))
          (stands_last h m past before last rest left_side.stands) (subst (λ l. StandsAt g (left m l) last'.0 (past ++ l)) (sym e) (stands_last g m past before' last' rest' right_side.stands))))

  -- A lookup

  ends_ask : (h g : List (Entry Meaning)) (r : Reply) (m n k : ℕ) (past : List (Entry Meaning)) (cs ds : List (ℕ × Entry Meaning)) → Side h m past cs → Side g m past ds → StandsAt h m n past → StandsAt g m k past → EndsAsk h n r cs → EndsAsk g k r ds → Same m (entries cs) (entries ds)
  ends_ask h g (reply.Done q) m n k past cs ds a b s t x y = works h g q m n k past cs ds a b s t x y
  ends_ask h g (reply.Pending q) m n k past cs ds a b s t x y = works h g q m n k past cs ds a b s t x y
  ends_ask h g (reply.InError i) m n k past cs ds a b s t x y = inl (ap entries (x ∙ sym y))
  ends_ask h g (reply.Missing name) m n k past cs ds a b s t x y = inl (ap entries (x ∙ sym y))
  ends_ask h g (reply.NoDylib d) m n k past cs ds a b s t x y = inl (ap entries (x ∙ sym y))
  ends_ask h g _ m n k past cs ds a b s t x y = absurd x

  pub looks : (h g : List (Entry Meaning)) (l : Lookup) (m : ℕ) (past : List (Entry Meaning)) (cs ds : List (ℕ × Entry Meaning)) → Side h m past cs → Side g m past ds → Looks h l cs → Looks g l ds → Same m (entries cs) (entries ds)
  looks h g l zero past cs ds a b (Asks n e es is x) (Asks k d fs ie y) = same_far e d (entries es) (entries fs)
  looks h g l zero past cs ds a b (Asks n e es is x) (Again k j d f o fs ie offered uses more) = same_far e d (entries es) (f ∷ entries fs)
  looks h g l zero past cs ds a b (Again n i e f o es is offered uses more) (Asks k d fs ie y) = same_far e d (f ∷ entries es) (entries fs)
  looks h g l zero past cs ds a b (Again n i e f o es is offered uses more) (Again k j d f' o' fs ie offered' uses' more') = same_far e d (f ∷ entries es) (f' ∷ entries fs)
  looks h g l (suc m) past cs ds a b (Again n i e f o es is offered uses more) y = absurd (a.goes.0.ask_unoffered l o is offered)
  looks h g l (suc m) past cs ds a b x (Again k j d f o fs ie offered uses more) = absurd (b.goes.0.ask_unoffered l o ie offered)
  looks h g l (suc m) past cs ds a b (Asks n e es is x) (Asks k d fs ie y) = step_on jmax who m past e d (entries es) (entries fs) (λ v w. is ∙ sym ie) a.goes b.goes
      (λ same r v w. ends_ask h g e.reply m n k (past ++ e ∷ []) es fs (record { goes = v; stands = a.stands.1 }) (record { goes = w; stands = subst (λ (z : Entry Meaning). Stands g m (past ++ z ∷ []) fs) (sym same) b.stands.1 })
      (stands_at h m n (past ++ e ∷ []) a.stands.0) (subst (λ (z : Entry Meaning). StandsAt g m k (past ++ z ∷ [])) (sym same) (stands_at g m k (past ++ d ∷ []) b.stands.0)) x (subst (λ (z : Entry Meaning). EndsAsk g k z.reply fs) (sym same) y))
