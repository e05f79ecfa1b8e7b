-- What a subcommand's name and rows ask for.
use Rattle.std.proofs.Common.{◌≡◌, ℕ, List, Option, Some, None, true, codes, refl, ap, sym, ◌∙◌, option_map}
use Rattle.std.specs.Str.{bytes_eq}
use Rattle.clap.specs.Words.{Row, Text, first_of}
use Rattle.st_words.specs.Order.{workers_of, order_of}
use Rattle.st_words.specs.declared.order.Order.TheVariants.{Pool}

-- rows that were found under the name of the pool ask for a pool, with the workers that they say
pub pool_is_asked_for : (found : Option (Text × List Row)) (name : Text) (rows : List Row) (number : ℕ)
    → Some name ≡ option_map (λ p. p.0) found → Some rows ≡ option_map (λ p. p.1) found
    → bytes_eq name (codes "pool") ≡ true → number ≡ workers_of (first_of (codes "workers") rows)
    → Pool number ≡ order_of found
pool_is_asked_for None name rows number named rowed is_pool said = cc
pool_is_asked_for (Some found) name rows number named rowed is_pool said =
    let same_name : name ≡ found.0 = cc in
    let same_rows : rows ≡ found.1 = cc in
    let found_pool : bytes_eq found.0 (codes "pool") ≡ true = ap (λ t. bytes_eq t (codes "pool")) (sym same_name) ∙ is_pool in
    rw found_pool (ap (λ n. Pool n) (said ∙ ap (λ t. workers_of (first_of (codes "workers") t)) same_rows))

-- the name in a pair that was made where there is a value
pub name_of_pair : {A B C : Type 0} (f : A → B) (g : A → C) (o : Option A)
    → option_map f o ≡ option_map (λ (p : B × C). p.0) (option_map (λ a. (f a, g a)) o)
name_of_pair f g None = refl
name_of_pair f g (Some x) = refl
