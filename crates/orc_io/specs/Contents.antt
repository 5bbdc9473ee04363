-- What a set of files holds, where it tells that: a name's contents, or none where the name has no file.
use Rattle.std.specs.Prelude.{◌≡◌, ◌≢◌, ℕ, ◌<◌, List, length, Option, None, Some, IfSome, IsSomeAnd}

-- the file of this name has just these bytes
abbrev pub HasContent : Option (List ℕ → Option (List ℕ)) → List ℕ → List ℕ → Type 0
HasContent told name bytes = IfSome told (λ contents. contents name ≡ Some bytes)

-- the file of this name has more bytes than the limit
abbrev pub IsLongerThan : ℕ → Option (List ℕ → Option (List ℕ)) → List ℕ → Type 0
IsLongerThan limit told name = IfSome told (λ contents. IsSomeAnd (contents name) (λ bytes. limit < length bytes))

-- every other name stands for what it stood for
abbrev pub KeepsOtherFiles : Option (List ℕ → Option (List ℕ)) → Option (List ℕ → Option (List ℕ)) → List ℕ → Type 0
KeepsOtherFiles old new name = IfSome old (λ before. IfSome new (λ after. (other : List ℕ) → other ≢ name → after other ≡ before other))

-- there is no file of this name
abbrev pub IsMissing : Option (List ℕ → Option (List ℕ)) → List ℕ → Type 0
IsMissing told name = IfSome told (λ contents. contents name ≡ None)
