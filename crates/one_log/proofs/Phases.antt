-- Two jobs that go on from one past make the same calls.
use Rattle.std.proofs.Common.{◌≡◌, ℕ, zero, suc, ℤ, Bool, true, false, MatchBool, List, [], ◌∷◌, ◌++◌, slice_get, ◌⊎◌, inl, inr, refl, sym, ap, ◌∙◌, subst, append_assoc, Option, Some, None, is_some, unwrap_or}
use Rattle.std.specs.Bool.{⊤}
use Rattle.std.proofs.lemmas.Bool.{both_ways, eqb-true}
use Rattle.std.proofs.lemmas.Option.{none-some, same_Some}
use Rattle.orc_ids.specs.declared.groups.Group.{Group}
use Rattle.orc_ids.specs.declared.ids.GenId.{GenId}
use Rattle.orc_ids.specs.declared.ids.UnitId.{UnitId}
use Rattle.orc_ids.specs.declared.place.Place.{Place}
use Rattle.orc_ids.specs.declared.place.Shape.{Shape}
use Rattle.session_model.specs.Answer.{Answers, AnswersEmit, AnswersPlace, answer_link, can_emit, can_link, can_place, can_resolve}
use Rattle.session_model.specs.Calls.{AfterBound, AfterEmit, AfterPlace, AfterResolve, AfterStart, AfterTake, Emits, EndsLink, IsCut, IsFail, Links, Places, Resolves, is_emit, is_place, refusal_of, unit_test}
use Rattle.session_model.specs.Calls.{Cut, Ends, Again}
use Rattle.session_model.specs.History.{places}
use Rattle.session_model.specs.Meaning.{Meaning, Bindings}
use Rattle.session_model.specs.Plain.{Plain, UnitRow, is_alias, own_rows, unit_shape}
use Rattle.session_model.specs.State.{state}
use Rattle.session_model.specs.declared.entry.Entry.{Entry}
use Rattle.session_model.specs.declared.entry.Event.{Event}
use Rattle.session_model.specs.declared.entry.Event.TheVariants as event
use Rattle.session_model.specs.declared.entry.Finishing.TheVariants as finishing
use Rattle.session_model.specs.declared.entry.Reply.{Reply}
use Rattle.session_model.specs.declared.entry.Reply.TheVariants as reply
use Rattle.session_model.specs.declared.entry.Why.{Why}
use Rattle.session_model.specs.declared.entry.Why.TheVariants as why
use Rattle.session_laws.proofs.Declared.{same_element}
use Rattle.run_laws.proofs.Seats.{not_empty, same_head}
use Rattle.one_log.proofs.Entries.{Right, Wants, entry_one, full_stops, held_at}
use Rattle.one_log.proofs.Staying.{IsHeldBy, resolved_held, taken_held}
use Rattle.one_log.proofs.Fronts.{Same, same_cons, same_far, same_turned}

-- a list that begins so
pub record Headed (P : Entry Meaning → List (Entry Meaning) → Type 0) (es : List (Entry Meaning)) : Type 0 where
  pub head : Entry Meaning
  pub rest : List (Entry Meaning)
  pub are : es ≡ head ∷ rest
  pub is : P head rest

-- the one fail of a cut
record CutBy (u : UnitId) (es : List (Entry Meaning)) : Type 0 where
  first : Entry Meaning
  are : es ≡ first ∷ []
  how : (first.event ≡ event.Fail u why.NoMemory) ⊎ (first.event ≡ event.Fail u why.Full)

fail_by : (u : UnitId) (cause : Why) (es : List (Entry Meaning)) → IsFail u cause es → (e : Entry Meaning) × (es ≡ e ∷ []) × (e.event ≡ event.Fail u cause)
fail_by u cause (e ∷ []) f = (e, refl, f)
fail_by u cause [] f = absurd f
fail_by u cause (e ∷ d ∷ es) f = absurd f

cut_by : (u : UnitId) (es : List (Entry Meaning)) → IsCut u es → CutBy u es
cut_by u es (inl f) = let p = fail_by u why.NoMemory es f in record { first = p.0; are = p.1; how = inl p.2 }
cut_by u es (inr f) = let p = fail_by u why.Full es f in record { first = p.0; are = p.1; how = inr p.2 }

-- the event of a place or an emit
place_of : (u : UnitId) (v : Event Meaning) → is_place u v ≡ true → (shape : Shape) × (v ≡ event.Place u shape)
place_of u (event.Place v shape) e = (shape, ap (λ n. event.Place (record { 0 = n }) shape) (eqb-true v.0 u.0 e))
place_of u _ e = absurd (both_ways false refl e)

emit_of : (u : UnitId) (v : Event Meaning) → is_emit u v ≡ true → (groups : List Group) × (v ≡ event.Emit u groups)
emit_of u (event.Emit v groups) e = (groups, ap (λ n. event.Emit (record { 0 = n }) groups) (eqb-true v.0 u.0 e))
emit_of u _ e = absurd (both_ways false refl e)

-- what a stage's call is, and what comes after it
abbrev Placing : UnitId → Entry Meaning → List (Entry Meaning) → Type 0
Placing u e es = (is_place u e.event ≡ true) × AfterPlace u e.reply es

abbrev Resolving : (List (Entry Meaning) → Type 0) → UnitId → Entry Meaning → List (Entry Meaning) → Type 0
Resolving Next u e es = (e.event ≡ event.Resolve u) × AfterResolve Next e.reply es

abbrev Linking : UnitId → Entry Meaning → List (Entry Meaning) → Type 0
Linking u e es = (e.event ≡ event.Link u) × (EndsLink u e.reply es ⊎ ((g : GenId) × (e.reply ≡ reply.Offer g)))

abbrev Emitting : UnitId → Entry Meaning → List (Entry Meaning) → Type 0
Emitting u e es = (is_emit u e.event ≡ true) × AfterEmit u e.reply es

-- none of them goes on after WrongPhase
place_not_wrong : (u v : UnitId) (r : Reply) (es : List (Entry Meaning)) → AfterPlace u r es → r ≡ reply.WrongPhase v → ⊥
place_not_wrong u v r es a e = subst (λ x. AfterPlace u x es) e a

resolve_not_wrong : (Next : List (Entry Meaning) → Type 0) (v : UnitId) (r : Reply) (es : List (Entry Meaning)) → AfterResolve Next r es → r ≡ reply.WrongPhase v → ⊥
resolve_not_wrong Next v r es a e = subst (λ x. AfterResolve Next x es) e a

emit_not_wrong : (u v : UnitId) (r : Reply) (es : List (Entry Meaning)) → AfterEmit u r es → r ≡ reply.WrongPhase v → ⊥
emit_not_wrong u v r es a e = subst (λ x. AfterEmit u x es) e a

link_not_wrong : (u v : UnitId) (r : Reply) (es : List (Entry Meaning)) → EndsLink u r es ⊎ ((g : GenId) × (r ≡ reply.Offer g)) → r ≡ reply.WrongPhase v → ⊥
link_not_wrong u v r es (inl a) e = subst (λ x. EndsLink u x es) e a
link_not_wrong u v r es (inr p) e = let f : reply.Offer p.0 ≡ reply.WrongPhase v = sym p.1 ∙ e in absurd (cc)

links_headed : (u : UnitId) (es : List (Entry Meaning)) → Links u es → Headed (λ e f. IsCut u (e ∷ f) ⊎ Linking u e f) es
links_headed u es (Cut ds c) = let p = cut_by u ds c in record { head = p.first; rest = []; are = p.are; is = inl (subst (IsCut u) p.are c) }
links_headed u es (Ends e ds is ends) = record { head = e; rest = ds; are = refl; is = inr (is, inl ends) }
links_headed u es (Again e f g ds is offer uses links) = record { head = e; rest = f ∷ ds; are = refl; is = inr (is, inr (g, offer)) }

-- The seat took the job Finish of the unit, and this is the first edge of the unit that is out of range.
pub record InFinish (past : List (Entry Meaning)) (u : UnitId) (refusal : Option (Place × ℕ × ℤ)) : Type 0 where
  pub before : List (Entry Meaning)
  pub taken : Entry Meaning
  pub more : List (Entry Meaning)
  pub parts : past ≡ before ++ taken ∷ more
  pub takes : taken.event ≡ event.Take
  pub matches : Bindings
  pub bound : taken.reply ≡ reply.Finish u (finishing.Bound matches)
  pub refusal_is : refusal_of (state (before ++ taken ∷ [])) u ≡ refusal
  pub held : IsHeldBy taken.seat.0 (state past).units u.0

still_in : (past : List (Entry Meaning)) (u : UnitId) (refusal : Option (Place × ℕ × ℤ)) (e : Entry Meaning) → e.event ≡ event.Resolve u → e.reply ≡ reply.Resolved → InFinish past u refusal → InFinish (past ++ e ∷ []) u refusal
still_in past u refusal e is r p = record {
  before = p.before;
  taken = p.taken;
  more = p.more ++ e ∷ [];
  parts = ap (λ l. l ++ e ∷ []) p.parts ∙ append_assoc p.before (p.taken ∷ p.more) (e ∷ []);
  takes = p.takes;
  matches = p.matches;
  bound = p.bound;
  refusal_is = p.refusal_is;
  held = resolved_held past e u p.taken.seat.0 is r p.held;
}

module _ (jmax : ℕ) (who : List (Entry Meaning) → ℕ) where
  -- the first m of the entries are such entries
  abbrev pub Goes : ℕ → List (Entry Meaning) → List (Entry Meaning) → Type 0
  Goes zero past es = ⊤
  Goes (suc m) past [] = ⊤
  Goes (suc m) past (e ∷ es) = Right jmax who past e × Goes m (past ++ e ∷ []) es

  abbrev pub Agrees : (List (Entry Meaning) → Type 0) → Type 0
  Agrees P = (m : ℕ) (past f g : List (Entry Meaning)) → Goes m past f → Goes m past g → P f → P g → Same m f g

  -- one entry, and what follows it
  pub step_on : (k : ℕ) (past : List (Entry Meaning)) (e d : Entry Meaning) (f g : List (Entry Meaning)) → (Right jmax who past e → Right jmax who past d → e.event ≡ d.event) → Goes (suc k) past (e ∷ f) → Goes (suc k) past (d ∷ g) →
      (e ≡ d → Right jmax who past e → Goes k (past ++ e ∷ []) f → Goes k (past ++ e ∷ []) g → Same k f g) → Same (suc k) (e ∷ f) (d ∷ g)
  step_on k past e d f g events a b next =
      let is = entry_one jmax who past e d a.0 b.0 (events a.0 b.0) in
      same_cons k e d f g is (next is a.0 a.1 (subst (λ x. Goes k (past ++ x ∷ []) g) (sym is) b.1))

  pub step : (m : ℕ) (past : List (Entry Meaning)) (e d : Entry Meaning) (f g : List (Entry Meaning)) → (Right jmax who past e → Right jmax who past d → e.event ≡ d.event) → Goes m past (e ∷ f) → Goes m past (d ∷ g) →
      ((k : ℕ) → e ≡ d → Right jmax who past e → Goes k (past ++ e ∷ []) f → Goes k (past ++ e ∷ []) g → Same k f g) → Same m (e ∷ f) (d ∷ g)
  step zero past e d f g events a b next = same_far e d f g
  step (suc k) past e d f g events a b next = step_on k past e d f g events a b (next k)

  both_over : (m : ℕ) (f g : List (Entry Meaning)) → f ≡ [] → g ≡ [] → Same m f g
  both_over m f g a b = inl (a ∙ sym b)

  -- A fail

  fails : (u : UnitId) (cause : Why) → Agrees (IsFail u cause)
  fails u cause m past (e ∷ []) (d ∷ []) a b p q = step m past e d [] [] (λ x y. p ∙ sym q) a b (λ k is r x y. inl refl)
  fails u cause m past (e ∷ []) [] a b p q = absurd q
  fails u cause m past (e ∷ []) (d ∷ c ∷ g) a b p q = absurd q
  fails u cause m past [] g a b p q = absurd p
  fails u cause m past (e ∷ c ∷ f) g a b p q = absurd p

  full_fail : (past : List (Entry Meaning)) (u : UnitId) (e : Entry Meaning) → Right jmax who past e → (e.event ≡ event.Fail u why.NoMemory) ⊎ (e.event ≡ event.Fail u why.Full) → e.event ≡ event.Fail u why.Full
  full_fail past u e r (inl n) = absurd (r.spare u n)
  full_fail past u e r (inr f) = f

  -- the first entry of a cut is a fail for a full journal
  first_full : (past : List (Entry Meaning)) (u : UnitId) (e : Entry Meaning) (f : List (Entry Meaning)) → Right jmax who past e → IsCut u (e ∷ f) → e.event ≡ event.Fail u why.Full
  first_full past u e f r c =
      let p = cut_by u (e ∷ f) c in
      let is = same_head e p.first f [] p.are in
      full_fail past u e r (subst (λ (x : Entry Meaning). (x.event ≡ event.Fail u why.NoMemory) ⊎ (x.event ≡ event.Fail u why.Full)) (sym is) p.how)

  cuts : (u : UnitId) → Agrees (IsCut u)
  cuts u m past f g a b c d =
      let p = cut_by u f c in
      let q = cut_by u g d in
      subst (λ x. Same m x g) (sym p.are) (subst (λ y. Same m (p.first ∷ []) y) (sym q.are)
      (step m past p.first q.first [] [] (λ x y. full_fail past u p.first x p.how ∙ sym (full_fail past u q.first y q.how)) (subst (Goes m past) p.are a) (subst (Goes m past) q.are b) (λ k is r x y. inl refl)))

  -- A call, or the fail that cuts the job

  abbrev Either : UnitId → (Entry Meaning → List (Entry Meaning) → Type 0) → Entry Meaning → List (Entry Meaning) → Type 0
  Either u N e f = IsCut u (e ∷ f) ⊎ N e f

  chooses : (u : UnitId) (N : Entry Meaning → List (Entry Meaning) → Type 0) (m : ℕ) (past : List (Entry Meaning)) → ((e : Entry Meaning) (f : List (Entry Meaning)) → N e f → Right jmax who past e → Wants jmax who past u e.event) →
      (e d : Entry Meaning) (f g : List (Entry Meaning)) → (N e f → N d g → Same m (e ∷ f) (d ∷ g)) → Goes m past (e ∷ f) → Goes m past (d ∷ g) → Either u N e f → Either u N d g → Same m (e ∷ f) (d ∷ g)
  chooses u N zero past wants e d f g agree a b p q = same_far e d f g
  chooses u N (suc k) past wants e d f g agree a b (inl c) (inl x) = cuts u (suc k) past (e ∷ f) (d ∷ g) a b c x
  chooses u N (suc k) past wants e d f g agree a b (inl c) (inr n) = absurd (full_stops jmax who past u e d a.0 (first_full past u e f a.0 c) b.0 (wants d g n b.0))
  chooses u N (suc k) past wants e d f g agree a b (inr n) (inl c) = absurd (full_stops jmax who past u d e b.0 (first_full past u d g b.0 c) a.0 (wants e f n a.0))
  chooses u N (suc k) past wants e d f g agree a b (inr n) (inr o) = agree n o

  headed : (u : UnitId) (N : Entry Meaning → List (Entry Meaning) → Type 0) (m : ℕ) (past f g : List (Entry Meaning)) → ((e : Entry Meaning) (f : List (Entry Meaning)) → N e f → Right jmax who past e → Wants jmax who past u e.event) →
      ((e d : Entry Meaning) (f g : List (Entry Meaning)) → N e f → N d g → Goes m past (e ∷ f) → Goes m past (d ∷ g) → Same m (e ∷ f) (d ∷ g)) → Goes m past f → Goes m past g → Headed (Either u N) f → Headed (Either u N) g → Same m f g
  headed u N m past f g wants agree a b p q =
      let x = subst (Goes m past) p.are a in
      let y = subst (Goes m past) q.are b in
      subst (λ l. Same m l g) (sym p.are) (subst (λ l. Same m (p.head ∷ p.rest) l) (sym q.are)
      (chooses u N m past wants p.head q.head p.rest q.rest (λ n o. agree p.head q.head p.rest q.rest n o x y) x y p.is q.is))

  -- Links

  link_wants : (past : List (Entry Meaning)) (u : UnitId) (e : Entry Meaning) (f : List (Entry Meaning)) → Linking u e f → Right jmax who past e → Wants jmax who past u e.event
  link_wants past u e f n r =
      let h = held_at jmax who past u can_link (λ x. e.reply ≡ answer_link (state past) u.0 x) e.reply r.alive (link_not_wrong u u e.reply f n.1) (subst (λ v. Answers jmax past (state past) (who past) v e.reply) n.0 r.answers) in
      record { unit = h.0; there = h.1; holds = h.2; one = ap (places (state past) (who past)) n.0 }

  ends_link : (u : UnitId) (r : Reply) → Agrees (EndsLink u r)
  ends_link u (reply.Done q) m past f g a b x y = both_over m f g x y
  ends_link u (reply.Pending q) m past f g a b x y = both_over m f g x y
  ends_link u (reply.Defunct v) m past f g a b x y = both_over m f g x y
  ends_link u (reply.Missing name) m past f g a b x y = fails u (why.Missing name) m past f g a b x y
  ends_link u (reply.InError i) m past f g a b x y = fails u (why.InError i) m past f g a b x y
  ends_link u (reply.AliasCycle i) m past f g a b x y = fails u (why.AliasCycle i) m past f g a b x y
  ends_link u (reply.Offer g') m past f g a b x y = cuts u m past f g a b x y
  ends_link u _ m past f g a b x y = absurd x

  link_ended : (past : List (Entry Meaning)) (u : UnitId) (e : Entry Meaning) (f : List (Entry Meaning)) → Right jmax who past e → Linking u e f → EndsLink u e.reply f
  link_ended past u e f r (is, inl ends) = ends
  link_ended past u e f r (is, inr p) = absurd (r.link_unoffered u p.0 is p.1)

  link_agrees : (u : UnitId) (m : ℕ) (past : List (Entry Meaning)) (e d : Entry Meaning) (f g : List (Entry Meaning)) → Linking u e f → Linking u d g → Goes m past (e ∷ f) → Goes m past (d ∷ g) → Same m (e ∷ f) (d ∷ g)
  link_agrees u zero past e d f g n o a b = same_far e d f g
  link_agrees u (suc k) past e d f g n o a b = step_on k past e d f g (λ x y. n.0 ∙ sym o.0) a b
      (λ is r x y. ends_link u e.reply k (past ++ e ∷ []) f g x y (link_ended past u e f a.0 n) (subst (λ (z : Entry Meaning). EndsLink u z.reply g) (sym is) (link_ended past u d g b.0 o)))

  links : (u : UnitId) → Agrees (Links u)
  links u m past f g a b l k = headed u (Linking u) m past f g (link_wants past u) (link_agrees u m past) a b (links_headed u f l) (links_headed u g k)

  -- A resolve

  resolve_wants : (Next : List (Entry Meaning) → Type 0) (past : List (Entry Meaning)) (u : UnitId) (e : Entry Meaning) (f : List (Entry Meaning)) → Resolving Next u e f → Right jmax who past e → Wants jmax who past u e.event
  resolve_wants Next past u e f n r =
      let h = held_at jmax who past u can_resolve (λ x. e.reply ≡ reply.Resolved) e.reply r.alive (resolve_not_wrong Next u e.reply f n.1) (subst (λ v. Answers jmax past (state past) (who past) v e.reply) n.0 r.answers) in
      record { unit = h.0; there = h.1; holds = h.2; one = ap (places (state past) (who past)) n.0 }

  after_resolve : (Next : List (Entry Meaning) → Type 0) (r : Reply) (m : ℕ) (past f g : List (Entry Meaning)) → (r ≡ reply.Resolved → Goes m past f → Goes m past g → Next f → Next g → Same m f g) → Goes m past f → Goes m past g → AfterResolve Next r f → AfterResolve Next r g → Same m f g
  after_resolve Next reply.Resolved m past f g next a b x y = next refl a b x y
  after_resolve Next (reply.Defunct v) m past f g next a b x y = both_over m f g x y
  after_resolve Next _ m past f g next a b x y = absurd x

  resolves_headed : (Next : List (Entry Meaning) → Type 0) (u : UnitId) (es : List (Entry Meaning)) → Resolves Next u es → Headed (Either u (Resolving Next u)) es
  resolves_headed Next u [] p = absurd p
  resolves_headed Next u (e ∷ es) p = record { head = e; rest = es; are = refl; is = p }

  resolves : (Next : List (Entry Meaning) → Type 0) (u : UnitId) (m : ℕ) (past f g : List (Entry Meaning)) → ((k : ℕ) (e : Entry Meaning) (x y : List (Entry Meaning)) → e.event ≡ event.Resolve u → e.reply ≡ reply.Resolved → Goes k (past ++ e ∷ []) x → Goes k (past ++ e ∷ []) y → Next x → Next y → Same k x y) →
      Goes m past f → Goes m past g → Resolves Next u f → Resolves Next u g → Same m f g
  resolves Next u m past f g next a b p q = headed u (Resolving Next u) m past f g (resolve_wants Next past u)
      (λ e d x y n o s t. step m past e d x y (λ v w. n.0 ∙ sym o.0) s t (λ k is r v w. after_resolve Next e.reply k (past ++ e ∷ []) x y (next k e x y n.0) v w n.1 (subst (λ (z : Entry Meaning). AfterResolve Next z.reply y) (sym is) o.1)))
      a b (resolves_headed Next u f p) (resolves_headed Next u g q)

  resolves_links : (u : UnitId) → Agrees (Resolves (Links u) u)
  resolves_links u m past f g a b p q = resolves (Links u) u m past f g (λ k e x y is r. links u k (past ++ e ∷ []) x y) a b p q

  -- A place

  shape_at : (past : List (Entry Meaning)) (u : UnitId) (shape : Shape) (e : Entry Meaning) (f : List (Entry Meaning)) → e.event ≡ event.Place u shape → AfterPlace u e.reply f → Right jmax who past e →
      (x : UnitRow) × (slice_get (state past).units u.0 ≡ Some x) × (x.seat ≡ Some (who past)) × ((unit_shape x ≡ Some shape) × AnswersPlace (state past) shape e.reply)
  shape_at past u shape e f is after r = held_at jmax who past u can_place (λ x. (unit_shape x ≡ Some shape) × AnswersPlace (state past) shape e.reply) e.reply r.alive (place_not_wrong u u e.reply f after) (subst (λ v. Answers jmax past (state past) (who past) v e.reply) is r.answers)

  place_wants : (past : List (Entry Meaning)) (u : UnitId) (e : Entry Meaning) (f : List (Entry Meaning)) → Placing u e f → Right jmax who past e → Wants jmax who past u e.event
  place_wants past u e f n r =
      let v = place_of u e.event n.0 in
      let h = shape_at past u v.0 e f v.1 n.1 r in
      record { unit = h.0; there = h.1; holds = h.2; one = ap (places (state past) (who past)) v.1 }

  place_event : (past : List (Entry Meaning)) (u : UnitId) (e d : Entry Meaning) (f g : List (Entry Meaning)) → Placing u e f → Placing u d g → Right jmax who past e → Right jmax who past d → e.event ≡ d.event
  place_event past u e d f g n o a b =
      let v = place_of u e.event n.0 in
      let w = place_of u d.event o.0 in
      let x = shape_at past u v.0 e f v.1 n.1 a in
      let y = shape_at past u w.0 d g w.1 o.1 b in
      let same = same_Some v.0 w.0 (sym x.3.0 ∙ (ap unit_shape (same_element (slice_get (state past).units u.0) x.0 y.0 x.1 y.1) ∙ y.3.0)) in
      v.1 ∙ (ap (event.Place u) same ∙ sym w.1)

  after_place : (u : UnitId) (r : Reply) → Agrees (AfterPlace u r)
  after_place u (reply.Placed base) m past f g a b x y = resolves_links u m past f g a b x y
  after_place u (reply.NoRoom need) m past f g a b x y = fails u (why.NoRoom need) m past f g a b x y
  after_place u (reply.Defunct v) m past f g a b x y = both_over m f g x y
  after_place u _ m past f g a b x y = absurd x

  places_headed : (u : UnitId) (es : List (Entry Meaning)) → Places u es → Headed (Either u (Placing u)) es
  places_headed u [] p = absurd p
  places_headed u (e ∷ es) p = record { head = e; rest = es; are = refl; is = p }

  placed : (u : UnitId) → Agrees (Places u)
  placed u m past f g a b p q = headed u (Placing u) m past f g (place_wants past u)
      (λ e d x y n o s t. step m past e d x y (place_event past u e d x y n o) s t (λ k is r v w. after_place u e.reply k (past ++ e ∷ []) x y v w n.1 (subst (λ (z : Entry Meaning). AfterPlace u z.reply y) (sym is) o.1)))
      a b (places_headed u f p) (places_headed u g q)

  -- An emit

  groups_at : (past : List (Entry Meaning)) (u : UnitId) (groups : List Group) (e : Entry Meaning) (f : List (Entry Meaning)) → e.event ≡ event.Emit u groups → AfterEmit u e.reply f → Right jmax who past e →
      (x : UnitRow) × (slice_get (state past).units u.0 ≡ Some x) × (x.seat ≡ Some (who past)) × AnswersEmit (state past) u.0 groups x e.reply
  groups_at past u groups e f is after r = held_at jmax who past u can_emit (λ x. AnswersEmit (state past) u.0 groups x e.reply) e.reply r.alive (emit_not_wrong u u e.reply f after) (subst (λ v. Answers jmax past (state past) (who past) v e.reply) is r.answers)

  emit_wants : (past : List (Entry Meaning)) (u : UnitId) (e : Entry Meaning) (f : List (Entry Meaning)) → Emitting u e f → Right jmax who past e → Wants jmax who past u e.event
  emit_wants past u e f n r =
      let v = emit_of u e.event n.0 in
      let h = groups_at past u v.0 e f v.1 n.1 r in
      record { unit = h.0; there = h.1; holds = h.2; one = ap (places (state past) (who past)) v.1 }

  abbrev own_groups : List (Entry Meaning) → UnitId → UnitRow → List Group
  own_groups past u x = x.meaning.groups x.live (unwrap_or x.base 0) (unwrap_or x.bound []) (own_rows u.0 0 (state past).rows)

  emit_event : (past : List (Entry Meaning)) (u : UnitId) (e d : Entry Meaning) (f g : List (Entry Meaning)) → Emitting u e f → Emitting u d g → Right jmax who past e → Right jmax who past d → e.event ≡ d.event
  emit_event past u e d f g n o a b =
      let v = emit_of u e.event n.0 in
      let w = emit_of u d.event o.0 in
      let x = groups_at past u v.0 e f v.1 n.1 a in
      let y = groups_at past u w.0 d g w.1 o.1 b in
      let same = x.3.0 ∙ (ap (own_groups past u) (same_element (slice_get (state past).units u.0) x.0 y.0 x.1 y.1) ∙ sym y.3.0) in
      v.1 ∙ (ap (event.Emit u) same ∙ sym w.1)

  after_emit : (u : UnitId) (r : Reply) → Agrees (AfterEmit u r)
  after_emit u reply.Emitted m past f g a b x y = both_over m f g x y
  after_emit u (reply.BadDep i) m past f g a b x y = fails u (why.BadDep i) m past f g a b x y
  after_emit u (reply.Defunct v) m past f g a b x y = both_over m f g x y
  after_emit u _ m past f g a b x y = absurd x

  emits_headed : (u : UnitId) (es : List (Entry Meaning)) → Emits u None es → Headed (Either u (Emitting u)) es
  emits_headed u [] (inl c) = let p = cut_by u [] c in not_empty p.first [] (sym p.are)
  emits_headed u [] (inr p) = absurd p
  emits_headed u (e ∷ es) p = record { head = e; rest = es; are = refl; is = p }

  -- a refused edge is told
  refused : (past : List (Entry Meaning)) (u : UnitId) (r : Place × ℕ × ℤ) (m : ℕ) (f g : List (Entry Meaning)) → InFinish past u (Some r) → Goes m past f → Goes m past g → IsCut u f → IsFail u (why.Refused r.0 r.1 r.2) g → Same m f g
  refused past u r zero f g at a b c d = let p = cut_by u f c in let q = fail_by u (why.Refused r.0 r.1 r.2) g d in
      subst (λ l. Same zero l g) (sym p.are) (subst (λ l. Same zero (p.first ∷ []) l) (sym q.1) (same_far p.first q.0 [] []))
  refused past u r (suc k) f g at a b c d =
      let p = cut_by u f c in
      let x : Right jmax who past p.first = (subst (Goes (suc k) past) p.are a).0 in
      absurd (none-some r (sym (x.told at.before at.more at.taken u at.matches at.parts at.takes at.bound at.held (full_fail past u p.first x p.how)) ∙ at.refusal_is))

  emits : (u : UnitId) (refusal : Option (Place × ℕ × ℤ)) (m : ℕ) (past f g : List (Entry Meaning)) → InFinish past u refusal → Goes m past f → Goes m past g → Emits u refusal f → Emits u refusal g → Same m f g
  emits u None m past f g at a b p q = headed u (Emitting u) m past f g (emit_wants past u)
      (λ e d x y n o s t. step m past e d x y (emit_event past u e d x y n o) s t (λ k is r v w. after_emit u e.reply k (past ++ e ∷ []) x y v w n.1 (subst (λ (z : Entry Meaning). AfterEmit u z.reply y) (sym is) o.1)))
      a b (emits_headed u f p) (emits_headed u g q)
  emits u (Some r) m past f g at a b (inl c) (inl d) = cuts u m past f g a b c d
  emits u (Some r) m past f g at a b (inl c) (inr d) = refused past u r m f g at a b c d
  emits u (Some r) m past f g at a b (inr c) (inl d) = same_turned m g f (refused past u r m g f at b a d c)
  emits u (Some r) m past f g at a b (inr c) (inr d) = fails u (why.Refused r.0 r.1 r.2) m past f g a b c d

  -- A job

  either_way : (m : ℕ) (f g : List (Entry Meaning)) (b : Bool) (P Q : List (Entry Meaning) → Type 0) → (P f → P g → Same m f g) → (Q f → Q g → Same m f g) → MatchBool b (P f) (Q f) → MatchBool b (P g) (Q g) → Same m f g
  either_way m f g true P Q p q x y = p x y
  either_way m f g false P Q p q x y = q x y

  after_start : (n : Plain) (u : UnitId) → Agrees (AfterStart n u)
  after_start n u m past f g a b x y = either_way m f g (unit_test is_alias n u) (Links u) (λ es. MatchBool (unit_test (λ x. is_some (unit_shape x)) n u) (Places u es) (Resolves (Links u) u es)) (links u m past f g a b)
      (either_way m f g (unit_test (λ x. is_some (unit_shape x)) n u) (Places u) (Resolves (Links u) u) (placed u m past f g a b) (resolves_links u m past f g a b)) x y

  after_bound : (n : Plain) (u : UnitId) (m : ℕ) (past f g : List (Entry Meaning)) → InFinish past u (refusal_of n u) → Goes m past f → Goes m past g → AfterBound n u f → AfterBound n u g → Same m f g
  after_bound n u m past f g at a b x y = either_way m f g (unit_test is_alias n u) (Resolves (Emits u (refusal_of n u)) u) (Emits u (refusal_of n u))
      (resolves (Emits u (refusal_of n u)) u m past f g (λ k e v w is r. emits u (refusal_of n u) k (past ++ e ∷ []) v w (still_in past u (refusal_of n u) e is r at)) a b)
      (emits u (refusal_of n u) m past f g at a b) x y

  taken_bound : (past : List (Entry Meaning)) (t : Entry Meaning) (u : UnitId) (matches : Bindings) → Right jmax who past t → t.event ≡ event.Take → t.reply ≡ reply.Finish u (finishing.Bound matches) → InFinish (past ++ t ∷ []) u (refusal_of (state (past ++ t ∷ [])) u)
  taken_bound past t u matches right takes is = record { before = past; taken = t; more = []; parts = refl; takes = takes; matches = matches; bound = is; refusal_is = refl; held = taken_held jmax past t u (finishing.Bound matches) right.one_more takes is }

  pub after_take : (past : List (Entry Meaning)) (t : Entry Meaning) (r : Reply) (m : ℕ) (f g : List (Entry Meaning)) → Right jmax who past t → t.event ≡ event.Take → t.reply ≡ r → Goes m (past ++ t ∷ []) f → Goes m (past ++ t ∷ []) g →
      AfterTake (state (past ++ t ∷ [])) r f → AfterTake (state (past ++ t ∷ [])) r g → Same m f g
  after_take past t (reply.Start u) m f g right takes is a b x y = after_start (state (past ++ t ∷ [])) u m (past ++ t ∷ []) f g a b x y
  after_take past t (reply.Finish u (finishing.Bound matches)) m f g right takes is a b x y = after_bound (state (past ++ t ∷ [])) u m (past ++ t ∷ []) f g (taken_bound past t u matches right takes is) a b x y
  after_take past t (reply.Finish u (finishing.Lost i)) m f g right takes is a b x y = fails u (why.InError i) m (past ++ t ∷ []) f g a b x y
  after_take past t _ m f g right takes is a b x y = absurd x
