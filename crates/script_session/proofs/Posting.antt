-- What a seat knows of posts after it has posted what a lookup found, and keeps.
use Rattle.std.proofs.Common.{◌≡◌, ◌≢◌, ℕ, zero, suc, ◌<◌, Bool, true, false, List, [], ◌∷◌, ◌++◌, append-nil, refl, sym, ap, subst, ◌∙◌, arith, All, Option, Some, None}
use Rattle.std.specs.Prelude.{◌==◌, Contains, IfSome, if◌then◌else◌, option_map}
use Rattle.std.proofs.lemmas.List.Elements.{All-cons, All-head, All-nil, All-tail, Contains-append_right}
use Rattle.std.proofs.lemmas.Option.{none-some, same_Some}
use Rattle.orc_ids.specs.declared.ids.InstId.{InstId}
use Rattle.orc_ids.specs.declared.ids.NameId.{NameId}
use Rattle.orc_ids.specs.declared.lookup.Level.{Level}
use Rattle.orc_ids.specs.declared.lookup.Wanted.{Wanted}
use Rattle.session_model.specs.Meaning.{Bindings, Meaning}
use Rattle.session_model.specs.declared.entry.Entry.{Entry}
use Rattle.turn_lock.specs.declared.view.View.{View}
use Rattle.shared_session.specs.Did.{Did, Nothing}
use Rattle.shared_session.proofs.Doing.{nothing_is_done, nothing_twice, post_is_no_call}
use Rattle.link_worker.specs.Works.{IsFree}
use Rattle.ready_words.specs.Found.{HasPost, posts_all, posts_at, posts_one}
use Rattle.script_model.specs.Given.{Given, given_match, given_names, match_of}
use Rattle.script_model.specs.declared.names.GivenMatch.{GivenMatch}
use Rattle.script_model.specs.Lines.{WasReady}
use Rattle.script_session.specs.Posts.{KnowsGiven, KnowsMatch}

-- What was posted is noted

module _ {U : Type 0} (means : U → Meaning) where
  at_no_call : (i address : ℕ) (v : View (Entry U)) → Did means v (posts_at i address v) Nothing
  at_no_call i zero v = nothing_is_done means v
  at_no_call i (suc address) v = post_is_no_call means i (suc address) v

  one_no_call : (one : Option (InstId × ℕ)) (v : View (Entry U)) → Did means v (posts_one one v) Nothing
  one_no_call None v = nothing_is_done means v
  one_no_call (Some p) v = at_no_call p.0.0 p.1 v

  pub posts_no_call : (found : Bindings) (v : View (Entry U)) → Did means v (posts_all found v) Nothing
  posts_no_call [] v = nothing_is_done means v
  posts_no_call (one ∷ found) v = nothing_twice means v (posts_one one v) (posts_all found (posts_one one v)) (one_no_call one v) (posts_no_call found (posts_one one v))

  at_free : (i address : ℕ) (v : View (Entry U)) → IsFree means v → IsFree means (posts_at i address v)
  at_free i zero v free = free
  at_free i (suc address) v free = free

  one_free : (one : Option (InstId × ℕ)) (v : View (Entry U)) → IsFree means v → IsFree means (posts_one one v)
  one_free None v free = free
  one_free (Some p) v free = at_free p.0.0 p.1 v free

  pub posts_free : (found : Bindings) (v : View (Entry U)) → IsFree means v → IsFree means (posts_all found v)
  posts_free [] v free = free
  posts_free (one ∷ found) v free = posts_free found (posts_one one v) (one_free one v free)

  -- a match that isn't at 0 is noted
  abbrev pub IsNoted : View (Entry U) → Option (InstId × ℕ) → Type 0
  IsNoted v one = IfSome one (λ p. p.1 ≢ 0 → Contains v.noted (p.0.0, p.1))

  at_noted : (i address : ℕ) (v : View (Entry U)) → address ≢ 0 → Contains (posts_at i address v).noted (i, address)
  at_noted i zero v some = absurd (some refl)
  at_noted i (suc address) v some = (0, omega arith, refl)

  one_noted : (one : Option (InstId × ℕ)) (v : View (Entry U)) → IsNoted (posts_one one v) one
  one_noted None v = tt
  one_noted (Some p) v = at_noted p.0.0 p.1 v

  still_noted : (v w : View (Entry U)) (one : Option (InstId × ℕ)) → Did means v w Nothing → IsNoted v one → IsNoted w one
  still_noted v w None did is = tt
  still_noted v w (Some p) did is = λ some. subst (λ l. Contains l (p.0.0, p.1)) (sym did.noted.1) (Contains-append_right did.noted.0 v.noted (p.0.0, p.1) (is some))

  pub posts_noted : (found : Bindings) (v : View (Entry U)) → All (IsNoted (posts_all found v)) found
  posts_noted [] v = All-nil (IsNoted v)
  posts_noted (one ∷ found) v =
      let x = posts_one one v in
      All-cons (IsNoted (posts_all found x)) one found (still_noted x (posts_all found x) one (posts_no_call found x) (one_noted one v)) (posts_noted found x)

-- What is known of matches

module _ {U : Type 0} (means : U → Meaning) where
  -- what a seat knew of a match it knows still, whatever it did
  pub still_known : (v w : View (Entry U)) (m : GivenMatch) → (more : List (ℕ × ℕ)) × (w.noted ≡ more ++ v.noted) → KnowsMatch v m → KnowsMatch w m
  still_known v w m kept known = record {
    post = known.post;
    noted = λ was. subst (λ l. Contains l (m.instance.0, m.address)) (sym kept.1) (Contains-append_right kept.0 v.noted (m.instance.0, m.address) (known.noted was));
  }

  pub still_given : (table : Given) (v w : View (Entry U)) → (more : List (ℕ × ℕ)) × (w.noted ≡ more ++ v.noted) → KnowsGiven table v → KnowsGiven table w
  still_given table v w kept known name m at = still_known v w m kept (known name m at)

-- a match by one more lookup is one of its, or an earlier one
found_or_given : (P : GivenMatch → Type 0) (level : Level) (b : Option (InstId × ℕ)) (m : GivenMatch) → IfSome b (λ p. P (given_match level p)) → option_map (given_match level) b ≡ Some m → P m
found_or_given P level None m holds at = absurd (none-some m at)
found_or_given P level (Some p) m holds at = subst P (same_Some (given_match level p) m at) holds

-- so where it stands before what was given
first_or_given : (P : GivenMatch → Type 0) (level : Level) (b : Option (InstId × ℕ)) (given : Option GivenMatch) (m : GivenMatch) → IfSome b (λ p. P (given_match level p)) → (given ≡ Some m → P m) →
    (t : Bool) → (if t then option_map (given_match level) b else given) ≡ Some m → P m
first_or_given P level b given m holds others true at = found_or_given P level b m holds at
first_or_given P level b given m holds others false at = others at

pub given_all : (P : GivenMatch → Type 0) (level : Level) (ws : List Wanted) (bs : Bindings) (table : Given) → All (λ o. IfSome o (λ p. P (given_match level p))) bs → ((name : NameId) (m : GivenMatch) → match_of name table ≡ Some m → P m) →
    (name : NameId) (m : GivenMatch) → match_of name (given_names level ws bs ++ table) ≡ Some m → P m
given_all P level [] bs table all old name m at = old name m at
given_all P level (w ∷ ws) [] table all old name m at = old name m at
given_all P level (w ∷ ws) (b ∷ bs) table all old name m at =
    let Holds : Option (InstId × ℕ) → Type 0 = λ o. IfSome o (λ p. P (given_match level p)) in
    first_or_given P level b (match_of name (given_names level ws bs ++ table)) m (All-head Holds b bs all) (given_all P level ws bs table (All-tail Holds b bs all) old name m) (w.name.0 == name.0) at
