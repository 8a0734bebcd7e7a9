-- Uniqueness, for every statement of the form 'the result is this definition at the arguments': two programs that both meet it
-- answer alike. It serves each public function of every crate; its `ensures` is the hypothesis. Assumes nothing.
use mathlib.Core.Path.{◌≡◌, sym, ◌∙◌}

pub unique : {A : Type 0} (defined one other : A) → one ≡ defined → other ≡ defined → one ≡ other
unique defined one other p q = p ∙ sym q
