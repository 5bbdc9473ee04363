-- What a word that was read without the turn tells.
use Rattle.std.proofs.Common.{◌≡◌, ◌≢◌, ℕ, zero, suc, List, [], ◌∷◌, All, refl, sym, ap, ◌∙◌, arith}
use Rattle.std.proofs.lemmas.List.Elements.{All-cons, All-head, All-nil, All-tail}
use Rattle.session_model.specs.Meaning.{Meaning}
use Rattle.session_model.specs.declared.entry.Entry.{Entry}
use Rattle.turn_lock.specs.declared.view.View.{View}
use Rattle.turn_lock.specs.Told.{Reads}
use Rattle.turn_lock.proofs.Posts.{still_posted}
use Rattle.shared_session.specs.Home.{IsLawful, IsPosted, seat_of}
use Rattle.shared_session.specs.Carried.{lawful_before, stays_posted}
use Rattle.shared_session.specs.ReadyWords.{IsWord, ReadyWordsStand}

pub ready_words_stand : {U : Type 0} (means : U → Meaning) → ReadyWordsStand means
ready_words_stand means jmax seen more lawful i word posted =
    still_posted (IsLawful means jmax) (IsPosted means) (lawful_before means jmax) (stays_posted means jmax) i word seen more lawful posted

module _ {U : Type 0} (means : U → Meaning) (jmax i : ℕ) (v w : View (Entry U)) where
  abbrev Told : List (Entry U) → ℕ × ℕ → Type 0
  Told log p = IsPosted means log p.0 p.1

  abbrev Known : ℕ → ℕ × ℕ → Type 0
  Known word p = p.0 ≡ i → word ≡ p.1

  abbrev ToldAgain : ℕ → ℕ × ℕ → Type 0
  ToldAgain word p = p.0 ≡ i → (word ≡ p.1) × (word ≢ 0)

  -- what the history shows of a post isn't 0
  again : (word : ℕ) (noted : List (ℕ × ℕ)) → All (Told w.seen) noted → All (Known word) noted → All (ToldAgain word) noted
  again word [] shown known = All-nil (ToldAgain word)
  again word (p ∷ ps) shown known =
      let here : Told w.seen p = All-head (Told w.seen) p ps shown in
      let same : Known word p = All-head (Known word) p ps known in
      let first : ToldAgain word p = λ at. (same at, λ none. here.not_zero (sym (same at) ∙ none)) in
      All-cons (ToldAgain word) p ps first (again word ps (All-tail (Told w.seen) p ps shown) (All-tail (Known word) p ps known))

  pub word_is : (word : ℕ) → Reads seat_of (IsLawful means jmax) (IsPosted means) i word v w → All (λ p. p.0 ≡ i → word ≡ p.1) v.noted → (word ≢ 0 → IsPosted means w.seen i word) → IsWord means jmax i word v w
  word_is zero reads known shown = record {
    ready = shown;
    empty = λ none. ap (λ (x : View (Entry U)). x.zeros) reads.0;
    again = again zero v.noted reads.1.noted known;
    noted = λ some. absurd (some refl);
    looked = record { later = reads.1.later; mine = ap (λ (x : View (Entry U)). x.mine) reads.0; lawful = reads.1.legal };
    read = reads;
  }
  word_is (suc word) reads known shown = record {
    ready = shown;
    empty = λ none. absurd (omega (arith, none));
    again = again (suc word) v.noted (All-tail (Told w.seen) (i, suc word) v.noted reads.1.noted) known;
    noted = λ some. ap (λ (x : View (Entry U)). x.noted) reads.0;
    looked = record { later = reads.1.later; mine = ap (λ (x : View (Entry U)). x.mine) reads.0; lawful = reads.1.legal };
    read = reads;
  }
