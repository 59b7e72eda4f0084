-- What was read off a triangle is a method too: the sums of its development years, and its last observed outstandings.
use Rattle.method.specs.Triangle.{entry}
use Rattle.method.specs.ProjectedYear.{next_year, unrounded_year, allowed_year}
use Rattle.method.specs.RunOff.{Method}
use Rattle.ratios.specs.Ratios.{sums_at}
use Rattle.prepared_years.specs.declared.triangle.PreparedTriangle.{PreparedTriangle}
use Rattle.prepared_years.specs.Prepared.{ratios_of}

-- The last observed outstanding of accident year i stands at i − 1. No other observed one is kept, and a projected year asks for none.
-- Where the prepared triangle is that of a triangle, its rows are the triangle's: law `rows_as_in_the_triangle` in proofs/ReadTriangles.antt.
abbrev pub method_read : PreparedTriangle → Method
method_read t = record {
  years = t.n;
  observed = λ i k. entry t.outstandings i;
  rounded = λ i k r. next_year r (sums_at (ratios_of t.years) k);
  unrounded = λ i k u. unrounded_year u (sums_at (ratios_of t.years) k);
  allowed = λ i k a. allowed_year a (sums_at (ratios_of t.years) k);
}
