-- The library's search passes bytes that are not sought, and stops at one that is.
use Rattle.std.proofs.Common.{rules, ◌≡◌, length, ◌<◌, ◌≤◌, true, false, get_or, ℕ}
use Rattle.text.proofs.Searches.{first_place}
use Rattle.text.proofs.search.find.Goals as goal

pub returns-clause-first : goal.returns-clause-first
returns-clause-first g c = λ test computes.
    let text = c.args.text.now in
    let place = c.unwrap_or.result in
    let within : place ≤ length text = search rules in
    let passed : (k : ℕ) → k < place → false ≡ test (get_or text k 0) = search (rules, computes) in
    let here : place < length text → true ≡ test (get_or text place 0) = search (rules, computes) in
    first_place test text place within passed here
