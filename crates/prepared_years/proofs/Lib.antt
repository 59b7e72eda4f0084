-- The laws of prepared years.
pub mod PreparedYears
