-- Posting what a lookup found.
use Rattle.std.specs.Prelude.{◌≡◌, ◌≢◌, ℕ, zero, suc, ◌<◌, ⊤, List, [], ◌∷◌, All, IfSome, Option, Some, None}
use Rattle.orc_ids.specs.declared.ids.InstId.{InstId}
use Rattle.orc_ids.specs.declared.lookup.Level.TheVariants.{Ready}
use Rattle.session_model.specs.Calls.{Lookup, Looks}
use Rattle.session_model.specs.Meaning.{Bindings, Meaning}
use Rattle.session_model.specs.declared.entry.Entry.{Entry}
use Rattle.turn_lock.specs.declared.view.View.{View}
use Rattle.turn_lock.specs.Lists.{StartsWith}
use Rattle.turn_lock.specs.Views.{notes}
use Rattle.session_model.specs.Ends.{EndsAs}
use Rattle.session_model.specs.declared.look_end.LookEnd.TheVariants.{Found}
use Rattle.shared_session.specs.Home.{IsLawful, IsPosted}
use Rattle.shared_session.specs.declared.posts.TheConstants.{POSTS}
use Rattle.shared_session.specs.Did.{Did}

module _ {U : Type 0} (means : U → Meaning) (posts : ℕ) (seen : List (Entry U)) where
  -- a match with an address that isn't 0 is that of an instance which has a post, and is ready there in what was seen
  abbrev pub MayBePosted : Option (InstId × ℕ) → Type 0
  MayBePosted None = ⊤
  MayBePosted (Some p) = p.1 ≢ 0 → (p.0.0 < posts) × IsPosted means seen p.0.0 p.1

module _ {E : Type 0} where
  -- the view after an address was posted; 0 is passed over
  abbrev pub posts_at : ℕ → ℕ → View E → View E
  posts_at i zero v = v
  posts_at i (suc address) v = notes i (suc address) v

  -- after a match was posted
  abbrev pub posts_one : Option (InstId × ℕ) → View E → View E
  posts_one None v = v
  posts_one (Some p) v = posts_at p.0.0 p.1 v

  -- and after all of them were, in order
  abbrev pub posts_all : Bindings → View E → View E
  posts_all [] v = v
  posts_all (one ∷ found) v = posts_all found (posts_one one v)

-- what a lookup found, at either level, has posts
abbrev pub HasPost : Option (InstId × ℕ) → Type 0
HasPost o = IfSome o (λ p. p.0.0 < POSTS)

abbrev pub FoundHavePosts : {U : Type 0} → (U → Meaning) → Type 0
FoundHavePosts {U} means = (jmax : ℕ) (v w now : View (Entry U)) (l : Lookup) (matches : Bindings) →
    Did means v w (λ h cs. Looks h l cs × EndsAs (Found matches) cs) → StartsWith now.seen w.seen → IsLawful means jmax now.seen → All HasPost matches

-- what a lookup at Ready found may be posted by a pass that has seen all of it
abbrev pub FoundMayBePosted : {U : Type 0} → (U → Meaning) → Type 0
FoundMayBePosted {U} means = (jmax : ℕ) (v w now : View (Entry U)) (l : Lookup) (matches : Bindings) → l.level ≡ Ready →
    Did means v w (λ h cs. Looks h l cs × EndsAs (Found matches) cs) → StartsWith now.seen w.seen → IsLawful means jmax now.seen → All (MayBePosted means POSTS now.seen) matches
