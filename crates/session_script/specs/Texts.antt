-- Lists of texts in which a text stands once, at the place that is its number.
use Rattle.std.specs.Prelude.{ℕ, ◌≤◌, ◌^◌, Bool, List, [], ◌∷◌, ◌++◌, length, position, unwrap_or, if◌then◌else◌}
use Rattle.std.specs.List.{IsDistinct, list_any}
use Rattle.std.specs.Str.{bytes_eq}

-- the text is among these
abbrev pub has : List ℕ → List (List ℕ) → Bool
has text texts = list_any (bytes_eq text) texts

-- the place of the text among these, from 0
abbrev pub number_of : List ℕ → List (List ℕ) → ℕ
number_of text texts = unwrap_or (position (bytes_eq text) texts) 0

-- the texts once this one is mentioned: it stands last where it is new
abbrev pub mentioned : List ℕ → List (List ℕ) → List (List ℕ)
mentioned text texts = if has text texts then texts else texts ++ text ∷ []

-- the texts once all of these are mentioned, one after the other
abbrev pub all_mentioned : List (List ℕ) → List (List ℕ) → List (List ℕ)
all_mentioned [] texts = texts
all_mentioned (text ∷ more) texts = all_mentioned more (mentioned text texts)

-- no text stands twice, and each place fits a number
pub record IsTable (texts : List (List ℕ)) : Type 0 where
  pub distinct : IsDistinct bytes_eq texts
  pub few : length texts ≤ 2 ^ 32
