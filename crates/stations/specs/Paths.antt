-- Any number of steps.

-- from the first to the last by steps of the relation
pub data Along {A : Type 0} (Step : A → A → Type 0) (first : A) : A → Type 0 where
  still : Along Step first first
  further : {next last : A} → Along Step first next → Step next last → Along Step first last
