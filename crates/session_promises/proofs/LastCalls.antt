-- The last call of a lookup that isn't refused collects the query that its ask lodged.
use Rattle.std.proofs.Common.{◌≡◌, ℕ, ◌+◌, true, false, List, [], ◌∷◌, ◌++◌, slice_get, inl, inr, refl, sym, subst, ap, ◌∙◌, append_assoc, Some}
use Rattle.std.proofs.lemmas.Bool.{both_ways}
use Rattle.std.proofs.lemmas.List.{same_from_push}
use Rattle.std.proofs.lemmas.List.Elements.{All-head, All-tail}
use Rattle.orc_ids.specs.declared.ids.QueryId.{QueryId}
use Rattle.session_model.specs.Calls.{EndsAsk, Lookup, Looks, Works, is_collected, lookup_event}
use Rattle.session_model.specs.Calls.{Again, Asks, Collects, Job}
use Rattle.session_model.specs.Meaning.{Meaning}
use Rattle.session_model.specs.declared.entry.Entry.{Entry}
use Rattle.session_model.specs.declared.entry.Event.TheVariants as event
use Rattle.session_model.specs.declared.entry.Reply.{Reply}
use Rattle.session_model.specs.declared.entry.Reply.TheVariants as reply
use Rattle.session_promises.specs.Lookups.{AreCallsOf}
use Rattle.session_promises.proofs.Lodged.{Lodges}

-- Last elements

abbrev Call : Type 0
Call = ℕ × Entry Meaning

-- the call is an entry of the history
abbrev pub IsCallOf : List (Entry Meaning) → Call → Type 0
IsCallOf h c = (n : ℕ) × (c.0 ≡ n + 1) × (slice_get h n ≡ Some c.1)

-- of the last call P holds
record LastIs (P : Call → Type 0) (cs : List Call) : Type 0 where
  front : List Call
  call : Call
  are : cs ≡ front ++ call ∷ []
  is : P call

last_one : (P : Call → Type 0) (c : Call) (cs : List Call) → cs ≡ [] → P c → LastIs P (c ∷ cs)
last_one P c cs none p = record { front = []; call = c; are = ap (λ l. c ∷ l) none; is = p }

last_later : (P : Call → Type 0) (cs ds : List Call) → LastIs P ds → LastIs P (cs ++ ds)
last_later P cs ds l = record { front = cs ++ l.front; call = l.call; are = ap (λ x. cs ++ x) l.are ∙ sym (append_assoc cs l.front (l.call ∷ [])); is = l.is }

last_weaker : (P Q : Call → Type 0) (cs : List Call) → ((c : Call) → P c → Q c) → LastIs P cs → LastIs Q cs
last_weaker P Q cs f l = record { front = l.front; call = l.call; are = l.are; is = f l.call l.is }

-- The calls of a lookup

works_end : (h : List (Entry Meaning)) (q : QueryId) (n : ℕ) (cs : List Call) → Works h q n cs → LastIs (λ c. c.1.event ≡ event.Collect q) cs
works_end h q n cs (Collects k m e is got) = last_one (λ c. c.1.event ≡ event.Collect q) (m, e) [] refl is
works_end h q n cs (Job k m query last before rest there unmet job works) = last_later (λ c. c.1.event ≡ event.Collect q) before (last ∷ rest)
    (last_later (λ c. c.1.event ≡ event.Collect q) (last ∷ []) rest (works_end h q last.0 rest works))

-- an ask of the lookup lodged the query that the call collects
pub record CollectsLookup (h : List (Entry Meaning)) (l : Lookup) (call : Call) : Type 0 where
  pub asked : ℕ
  pub ask : Entry Meaning
  pub there : slice_get h asked ≡ Some ask
  pub asks : ask.event ≡ lookup_event l
  pub query : QueryId
  pub lodges : Lodges ask.reply query
  pub collects : call.1.event ≡ event.Collect query

-- if it is a collect that was answered
abbrev MayCollect : List (Entry Meaning) → Lookup → Call → Type 0
MayCollect h l c = is_collected c.1.reply ≡ true → CollectsLookup h l c

ask_ends : (h : List (Entry Meaning)) (l : Lookup) (n : ℕ) (e : Entry Meaning) (cs : List Call) → AreCallsOf h ((n, e) ∷ cs) → e.event ≡ lookup_event l → EndsAsk h n e.reply cs → LastIs (MayCollect h l) ((n, e) ∷ cs)
ask_ends h l n e cs calls is ends = by_reply e.reply refl ends
  where
    at : IsCallOf h (n, e)
    at = All-head (IsCallOf h) (n, e) cs calls

    lodged : (q : QueryId) → Lodges e.reply q → Works h q n cs → LastIs (MayCollect h l) ((n, e) ∷ cs)
    lodged q lodges works = last_later (MayCollect h l) ((n, e) ∷ []) cs
        (last_weaker (λ c. c.1.event ≡ event.Collect q) (MayCollect h l) cs (λ c collects got. record { asked = at.0; ask = e; there = at.2; asks = is; query = q; lodges = lodges; collects = collects }) (works_end h q n cs works))

    refused : is_collected e.reply ≡ false → cs ≡ [] → LastIs (MayCollect h l) ((n, e) ∷ cs)
    refused plain none = last_one (MayCollect h l) (n, e) cs none (λ got. absurd (both_ways (is_collected e.reply) plain got))

    by_reply : (r : Reply) → e.reply ≡ r → EndsAsk h n r cs → LastIs (MayCollect h l) ((n, e) ∷ cs)
    by_reply (reply.Done q) r works = lodged q (inl r) works
    by_reply (reply.Pending q) r works = lodged q (inr r) works
    by_reply (reply.InError i) r none = refused (ap is_collected r) none
    by_reply (reply.Missing name) r none = refused (ap is_collected r) none
    by_reply (reply.NoDylib d) r none = refused (ap is_collected r) none
    by_reply _ r none = absurd none

looks_end : (h : List (Entry Meaning)) (l : Lookup) (cs : List Call) → AreCallsOf h cs → Looks h l cs → LastIs (MayCollect h l) cs
looks_end h l cs calls (Asks n e ds is ends) = ask_ends h l n e ds calls is ends
looks_end h l cs calls (Again n m e f g ds is offered uses looks) = last_later (MayCollect h l) ((n, e) ∷ (m, f) ∷ []) ds (looks_end h l ds
    (All-tail (IsCallOf h) (m, f) ds (All-tail (IsCallOf h) (n, e) ((m, f) ∷ ds) calls)) looks)

pub last_collects : (h : List (Entry Meaning)) (l : Lookup) (before : List Call) (last : Call) → AreCallsOf h (before ++ last ∷ []) → Looks h l (before ++ last ∷ []) → is_collected last.1.reply ≡ true → CollectsLookup h l last
last_collects h l before last calls looks got = let p = looks_end h l (before ++ last ∷ []) calls looks in
    subst (MayCollect h l) (same_from_push p.front before p.call last (sym p.are)).1 p.is got
